use Rattle.std.proofs.Common.{List, ◌++◌, sym, ap, ◌∙◌, subst, map}
use Rattle.std.specs.List.{AllByRecursion}
use Rattle.flow_term.specs.declared.term.Term.{Term, out-Term}
use Rattle.aterm_text.specs.Written.{KindReadsBack, ReadsBack, bracketed, written}
use Rattle.aterm_text.proofs.Texts.{apply_back, tuple_back, items_back, int_back, text_back, term_back, bare_back, annotated_written, read_back_more, on_ok, on_any, no_length, texts_behind}
use Rattle.aterm_text.proofs.writer.+write.Goals as goal

pub push_bracketed-loop-at-preserved : goal.push_bracketed-loop-at-preserved
push_bracketed-loop-at-preserved t c = record {
  texts = texts_behind c.args.terms.now c.loop-at.at c.index-terms-at.result c.args.bytes.now.items c.args.opening c.loop-at.bytes.items c.push_separator.new.bytes.items c.push_term.new.bytes.items
      c.loop-at-test.true c.index-terms-at.is c.loop-at.invariant.texts c.in_ok-push_separator.ensures c.in_ok-push_term.ensures.written;
  read_back = read_back_more c.args.terms.now c.loop-at.at c.index-terms-at.result c.loop-at-test.true c.loop-at.invariant.read_back (subst ReadsBack c.index-terms-at.is c.in_ok-push_term.ensures.reads_back);
}

pub push_kind-returns-in_ok-push_name-in-Apply-clause-reads_back : goal.push_kind-returns-in_ok-push_name-in-Apply-clause-reads_back
push_kind-returns-in_ok-push_name-in-Apply-clause-reads_back t c =
    on_ok c.push_bracketed.result c.push_bracketed.ensures.read_back (λ h. subst KindReadsBack (sym c.in-Apply.is) (apply_back c.in-Apply.name c.in-Apply.args c.push_name.ensures.utf8 (subst (AllByRecursion ReadsBack) c.as_slice.ensures h)))

pub push_kind-returns-in-Tuple-clause-reads_back : goal.push_kind-returns-in-Tuple-clause-reads_back
push_kind-returns-in-Tuple-clause-reads_back t c =
    on_ok c.push_bracketed-in-Tuple.result c.push_bracketed-in-Tuple.ensures.read_back (λ h. subst KindReadsBack (sym c.in-Tuple.is) (tuple_back c.in-Tuple.terms (subst (AllByRecursion ReadsBack) c.as_slice-in-Tuple.ensures h)))

pub push_kind-returns-in-Items-clause-reads_back : goal.push_kind-returns-in-Items-clause-reads_back
push_kind-returns-in-Items-clause-reads_back t c =
    on_ok c.push_bracketed-in-Items.result c.push_bracketed-in-Items.ensures.read_back (λ h. subst KindReadsBack (sym c.in-Items.is) (items_back c.in-Items.terms (subst (AllByRecursion ReadsBack) c.as_slice-in-Items.ensures h)))

pub push_kind-returns-in-Int-clause-reads_back : goal.push_kind-returns-in-Int-clause-reads_back
push_kind-returns-in-Int-clause-reads_back t c = on_any c.push_number.result (subst KindReadsBack (sym c.in-Int.is) (int_back c.in-Int.number c.push_number.ensures.range))

pub push_kind-returns-in-Str-clause-reads_back : goal.push_kind-returns-in-Str-clause-reads_back
push_kind-returns-in-Str-clause-reads_back t c = on_any c.push_text.result (subst KindReadsBack (sym c.in-Str.is) (text_back c.in-Str.text c.push_text.ensures.utf8))

pub push_term-returns-then-len-eq0-clause-reads_back : goal.push_term-returns-then-len-eq0-clause-reads_back
push_term-returns-then-len-eq0-clause-reads_back t c = let u : Term = c.args.term.now in bare_back u (no_length (out-Term u).annos (sym c.len.ensures ∙ c.if-len-eq0.true)) c.in_ok-push_kind.ensures.reads_back

pub push_term-returns-clause-written : goal.push_term-returns-clause-written
push_term-returns-clause-written t c =
    on_ok c.push_bracketed.result c.push_bracketed.ensures.written (λ e. annotated_written c.args.term.now c.args.bytes.now.items c.push_bracketed.new.bytes.items c.push_kind.new.bytes.items
    (λ g. c.if-len-eq0.false (c.len.ensures ∙ g)) c.in_ok-push_kind.ensures.written
    (e ∙ ap (λ (ts : List Term). c.push_kind.new.bytes.items ++ bracketed 123 (map written ts) 125) c.as_slice.ensures))

pub push_term-returns-clause-reads_back : goal.push_term-returns-clause-reads_back
push_term-returns-clause-reads_back t c =
    on_ok c.push_bracketed.result c.push_bracketed.ensures.read_back (λ h. term_back c.args.term.now c.in_ok-push_kind.ensures.reads_back (subst (AllByRecursion ReadsBack) c.as_slice.ensures h))
