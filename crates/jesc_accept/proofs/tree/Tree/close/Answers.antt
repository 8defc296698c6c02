use Rattle.std.proofs.Common.{◌≡◌, ◌+◌, ◌-◌, ◌≤◌, length, get_or, set, take, reverse, slice_get, Some, None, true, false, arith, ◌∙◌, ap, sym}
use Rattle.std.proofs.lemmas.Grind.{common_steps}
use Rattle.std.proofs.lemmas.List.{set_past}
use Rattle.std.specs.Vec.{with_item}
use Rattle.jesc_accept.specs.declared.tree.Tree.{Tree}
use Rattle.jesc_accept.specs.States.{beside}
use Rattle.jesc_accept.proofs.Besides.{opened, is_open, rest_is, turned, dropped}
use Rattle.jesc_accept.proofs.tree.Tree.close.Goals as goal
use Rattle.jesc_accept.proofs.tree.Tree.close.Goals.{then-atom-len, else-atom-len}

pub returns-then-is_known : goal.returns-then-is_known
returns-then-is_known c b rest h =
    let t = c.loop-self.self in
    let xs = t.trail.items in
    let x = c.index.result.now in
    let was = is_open c.args.self.now b rest h in
    let some : length xs - 1 + 1 ≡ length xs = grind (arith, common_steps) in
    let last : x ≡ get_or xs (length xs - 1) x = grind (arith, common_steps) in
    opened (record { values = with_item t.values x (Some false); trail = t.trail; is_open = t.is_open }) (c.loop-self.invariant.still ∙ was)
    ∙ turned t.values.items xs (length xs - 1) x some last (ap (λ b. slice_get b x) (sym (c.deref.ensures.value)) ∙ c.is_known.ensures.0 c.if-is_known.true)
    ∙ c.loop-self.invariant.same
    ∙ rest_is c.args.self.now b rest was h

pub loop-self-preserved : goal.loop-self-preserved
loop-self-preserved c =
    let t = c.loop-self.self in
    let xs = t.trail.items in
    let x = c.index.result.now in
    let some : length xs - 1 + 1 ≡ length xs = grind (arith, common_steps) in
    let last : x ≡ get_or xs (length xs - 1) x = grind (arith, common_steps) in
    let was : slice_get t.values.items x ≡ Some (Some true) → ⊥ = λ g.
    let k : c.is_known.result ≡ true = c.is_known.ensures.1 (ap (λ b. slice_get b x) (c.deref.ensures.value) ∙ g) in cc in
    let b = t.values.items in
    let front = take (length xs - 1) xs in
    let drop : beside (set b x None) (reverse front) ≡ beside b (reverse xs) = dropped b xs (length xs - 1) x some last was in
    let kept : c.truncate.new.self.items ≡ take (length xs - 1) c.if-atom-len.self.trail.items = grind (arith, common_steps) in
    elim c.if-atom-len.branch [
      | then-atom-len w ↦ record {
        still = ap (λ (s : Tree). s.is_open) w.self-is ∙ c.loop-self.invariant.still;
        same = ap (λ (s : Tree). beside s.values.items (reverse c.truncate.new.self.items)) w.self-is
            ∙ ap (λ y. beside (set b x None) (reverse y)) (kept ∙ ap (λ (s : Tree). take (length xs - 1) s.trail.items) w.self-is) ∙ drop ∙ c.loop-self.invariant.same;
      }
      | else-atom-len w ↦
          let past : length b ≤ x = grind (arith, common_steps) in
          record {
            still = ap (λ (s : Tree). s.is_open) w.self-is ∙ c.loop-self.invariant.still;
            same = ap (λ (s : Tree). beside s.values.items (reverse c.truncate.new.self.items)) w.self-is
                ∙ ap (λ y. beside b (reverse y)) (kept ∙ ap (λ (s : Tree). take (length xs - 1) s.trail.items) w.self-is)
                ∙ ap (λ y. beside y (reverse front)) (sym (set_past b x None past)) ∙ drop ∙ c.loop-self.invariant.same;
          }
    ]
