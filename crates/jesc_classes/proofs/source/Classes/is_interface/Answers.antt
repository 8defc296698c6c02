use Rattle.std.proofs.Common.{◌∙◌, ap, map}
use Rattle.jesc_classes.specs.Sources.{seen}
use Rattle.jesc_classes.proofs.Interfaces.{where_given, where_predefined, where_none}
use Rattle.jesc_classes.proofs.source.Classes.is_interface.Goals as goal

pub returns-then-number-ge7 : goal.returns-then-number-ge7
returns-then-number-ge7 c =
    where_given c.args.self.now c.as_slice.result.now (ap (map seen) c.as_slice.ensures ∙ c.self.view_is) c.args.number c.saturating_sub.result c.saturating_sub.ensures
    c.in-Some.class.now c.if-number-ge7.true c.in-Some.ensures.lookup.3.0 c.in-Some.ensures.lookup.1

pub returns-else-number-ge7 : goal.returns-else-number-ge7
returns-else-number-ge7 c =
    where_predefined c.args.self.now c.as_slice.result.now (ap (map seen) c.as_slice.ensures ∙ c.self.view_is) c.args.number c.saturating_sub.result c.saturating_sub.ensures
    c.if-number-ge7.false

pub returns-in-None : goal.returns-in-None
returns-in-None c =
    where_none c.args.self.now c.as_slice.result.now (ap (map seen) c.as_slice.ensures ∙ c.self.view_is) c.args.number c.saturating_sub.result c.saturating_sub.ensures
    c.in-None.ensures.lookup.3
