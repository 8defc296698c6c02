use Rattle.std.proofs.Common.{◌≡◌, ◌∷◌, [], ◌++◌, Some, None, true, arith, ◌∙◌, ap, set, reverse, slice_get, pos, suc, sym}
use Rattle.std.specs.Int.{w128}
use Rattle.std.specs.Vec.{with_item}
use Rattle.std.proofs.lemmas.Int.{to_z-of_z}
use Rattle.std.proofs.lemmas.Grind.{common_steps}
use Rattle.jesc_accept.specs.States.{beside}
use Rattle.jesc_accept.proofs.Besides.{opened, parted}
use Rattle.jesc_accept.proofs.tree.Tree.split.Goals as goal

pub returns : goal.returns
returns c =
    let t = c.args.self.now in
    let x = c.in-Some.atom in
    let b = t.values.items in
    let xs = t.trail.items in
    let pushed : c.push.new.self.items ≡ xs ++ x ∷ [] = grind (arith, common_steps) in
    let number : c.args.number ≡ pos (suc x) = sym (to_z-of_z w128 c.args.number c.ranges.number) ∙ c.in-Some.ensures.0 in
    let free : slice_get b x ≡ Some None = ap (λ y. slice_get y x) (sym c.deref.ensures.value) ∙ c.in-Some.ensures.1 in (
      x,
      b,
      beside b (reverse xs),
      (
        number,
        (
          opened t c.if-not-self.false,
          (
            free,
            opened (record { values = with_item t.values x (Some true); trail = c.push.new.self; is_open = t.is_open }) c.if-not-self.false
                ∙ ap (λ y. set b x (Some true) ∷ beside (set b x (Some true)) (reverse y)) pushed ∙ parted b xs x free,
          ),
        ),
      ),
    )
