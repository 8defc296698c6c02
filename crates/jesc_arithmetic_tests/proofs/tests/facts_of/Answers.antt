use Rattle.std.proofs.Common.{[], sym, subst, ◌∙◌, arith}
use Rattle.std.proofs.lemmas.List.Elements.{All-cons, All-nil}
use Rattle.jesc_logic.specs.Terms.{IsIn}
use Rattle.jesc_logic.specs.Claims.{IsOver, Each}
use Rattle.jesc_logic.specs.laws.Keeping.{is_in}
use Rattle.jesc_logic.proofs.Shapes.{eq_shape}
use Rattle.jesc_logic.proofs.Putting.{stands_in}
use Rattle.jesc_arithmetic_tests.proofs.tests.facts_of.Goals as goal

pub arithmetic_facts-requires : goal.arithmetic_facts-requires
arithmetic_facts-requires c =
    let now = c.num.new.self in
    All-cons (IsOver now) c.in-Ok.f []
    (subst (Each (IsIn now)) (sym (c.in-Ok.ensures ∙ eq_shape c.args.id c.in_ok-zero.zero)) (omega arith, stands_in now c.in_ok-zero.zero _ c.in_ok-zero.ensures.term)) (All-nil (IsOver now))
