use Rattle.value_text.proofs.Forms.{item_text}
use Rattle.value_text.proofs.form.+elem_has_text.Goals as goal

pub returns-in-Item : goal.returns-in-Item
returns-in-Item t c = item_text c.args.nesting c.args.elem.now c.in-Item.text c.is_identifier.result c.in-Item.is c.is_identifier.ensures
