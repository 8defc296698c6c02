use Rattle.std.proofs.Common.{◌≡◌, ◌<◌, map, take, length, IfSome}
use Rattle.jesc_references.specs.Known as spec
use Rattle.jesc_references.proofs.meaning.variable_named.Given as goal

abbrev pub invariant-loop-i : goal.invariant-loop-i
invariant-loop-i l = (l.last ≡ spec.last_from 0 l.name (take l.i (map (λ v. v.now) l.variables))) × IfSome l.last (λ i. i < length l.variables)
