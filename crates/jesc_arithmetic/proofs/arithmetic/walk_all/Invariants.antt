use Rattle.std.proofs.Common.{take}
use Rattle.std.specs.List.{flat_map}
use Rattle.jesc_logic.specs.Claims.{claim_of}
use Rattle.jesc_arithmetic.specs.Occurrences.{terms_in}
use Rattle.jesc_arithmetic.specs.Walks.{HasWalked}
use Rattle.jesc_arithmetic.proofs.arithmetic.walk_all.Given as goal

abbrev pub invariant-loop-f : goal.invariant-loop-f
invariant-loop-f l = HasWalked l.terms l.initial.walk l.walk (flat_map (λ f. terms_in (claim_of l.terms f)) (take l.f-index l.formulas))
