use Rattle.cert_text.proofs.Unique.{read_fault, read_found, read_only}
use Rattle.cert_text.proofs.reading.read.Goals as goal

pub returns : goal.returns
returns c = record {
  found = read_found c.args.bytes.now c.read_lines.result c.read_lines.ensures;
  fault = read_fault c.args.bytes.now c.read_lines.result c.read_lines.ensures;
  only = read_only c.args.bytes.now c.read_lines.result c.read_lines.ensures;
}
