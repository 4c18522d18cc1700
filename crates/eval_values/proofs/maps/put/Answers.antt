use Rattle.std.proofs.Common.{◌≡◌, ◌∷◌, ◌++◌, take, drop, sym, ap, ◌∙◌, arith}
use Rattle.std.specs.Prelude.{slice_get, slice_set}
use Rattle.value_domains.specs.Values.{pairs_of}
use Rattle.eval_values.specs.inner.Maps.{has_key, lesser_count}
use Rattle.eval_values.proofs.EntryLists.{lesser_within, put_new, put_over}
use Rattle.eval_values.proofs.maps.put.Goals as goal

pub returns-then-has_key_at : goal.returns-then-has_key_at
returns-then-has_key_at c =
    let place = c.lesser_count-place.ensures ∙ ap (lesser_count c.args.entry.key) c.deref.ensures.value in
    ap (λ n. pairs_of (slice_set c.args.entries.now.items n c.args.entry)) place
    ∙ put_over c.args.entry c.args.entries.now.items (sym ((λ i. has_key c.args.entry.key (slice_get (c.deref-2.ensures.value i) (place i)))) ∙ sym c.has_key_at.ensures ∙ c.if-has_key_at.true)

pub returns : goal.returns
returns c =
    let place = c.lesser_count-place.ensures ∙ ap (lesser_count c.args.entry.key) c.deref.ensures.value in
    ap pairs_of (c.in_ok-insert.ensures.items ∙ ap (λ n. take n c.args.entries.now.items ++ c.args.entry ∷ drop n c.args.entries.now.items) place)
    ∙ put_new c.args.entry c.args.entries.now.items (sym ((λ i. has_key c.args.entry.key (slice_get (c.deref-2.ensures.value i) (place i)))) ∙ sym c.has_key_at.ensures ∙ c.if-has_key_at.false)

pub insert-requires : goal.insert-requires
insert-requires c =
    let place = c.lesser_count-place.ensures ∙ ap (lesser_count c.args.entry.key) c.deref.ensures.value in
    omega (arith, place, lesser_within c.args.entry.key c.args.entries.now.items)
