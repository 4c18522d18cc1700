use Rattle.std.proofs.Common.{sym, ap, ◌∙◌, length}
use Rattle.check_exprs.proofs.Turning.{turned_by}
use Rattle.check_exprs.proofs.notes.put_behind.Goals as goal

pub returns : goal.returns
returns c =
    turned_by c.args.types.now.items c.split_at_mut-turned.result.0.now c.split_at_mut-turned.result.1.now c.rotate_left.new.self c.args.types.now.len c.args.start c.args.middle
    (sym c.as_mut_slice.ensures.len ∙ ap length c.as_mut_slice.ensures.value) (sym c.split_at_mut-turned.ensures.value ∙ c.as_mut_slice.ensures.value) c.split_at_mut-turned.ensures.front_len c.requires.from
    c.rotate_left.ensures.after c.rotate_left.ensures.len
