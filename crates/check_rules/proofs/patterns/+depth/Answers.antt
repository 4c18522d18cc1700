use Rattle.check_rules.proofs.PatternLayers.{deep_apply, deep_items, deep_tuple}
use Rattle.check_rules.proofs.patterns.+depth.Goals as goal

pub looks_deep-returns-else-level-gt-LIMIT : goal.looks_deep-returns-else-level-gt-LIMIT
looks_deep-returns-else-level-gt-LIMIT t c =
    deep_apply c.args.pattern.now c.in-Apply.field-0 c.in-Apply.parts c.as_slice.result.now c.args.level c.any_looks_deep.result c.in-Apply.is c.as_slice.ensures c.if-level-gt-LIMIT.false c.any_looks_deep.ensures

pub looks_deep-returns-else-level-gt-LIMIT-2 : goal.looks_deep-returns-else-level-gt-LIMIT-2
looks_deep-returns-else-level-gt-LIMIT-2 t c =
    deep_tuple c.args.pattern.now c.in-Tuple.parts c.as_slice-else-level-gt-LIMIT-2.result.now c.args.level c.any_looks_deep-else-level-gt-LIMIT-2.result c.in-Tuple.is c.as_slice-else-level-gt-LIMIT-2.ensures c.if-level-gt-LIMIT-2.false
    c.any_looks_deep-else-level-gt-LIMIT-2.ensures

pub looks_deep-returns-else-level-gt-LIMIT-3 : goal.looks_deep-returns-else-level-gt-LIMIT-3
looks_deep-returns-else-level-gt-LIMIT-3 t c =
    deep_items c.args.pattern.now c.in-Items.parts c.as_slice-else-level-gt-LIMIT-3.result.now c.args.level c.any_looks_deep-else-level-gt-LIMIT-3.result c.in-Items.is c.as_slice-else-level-gt-LIMIT-3.ensures c.if-level-gt-LIMIT-3.false
    c.any_looks_deep-else-level-gt-LIMIT-3.ensures
