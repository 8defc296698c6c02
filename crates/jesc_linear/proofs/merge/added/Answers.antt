use Rattle.std.proofs.Common.{◌≡◌, ◌+◌, ◌<◌, ◌≤◌, ◌^◌, ℕ, length, ℤ, sym, ap, ◌∙◌, subst, ◌+ℤ◌, ◌*ℤ◌, FitsSigned, to_z, of_z, w64}
use mir.Syntax.{w128}
use Rattle.std.specs.Prelude.{unsigned_abs, All}
use Rattle.std.proofs.lemmas.Int.{to_z-of_z}
use Rattle.jesc_linear.specs.Forms.{Form}
use Rattle.jesc_linear.specs.Steps.{IsNarrow}
use Rattle.jesc_linear.specs.Merges.{head_at, past, with_part}
use Rattle.jesc_linear.proofs.Merging.{IsMerging, head_narrow, merging_starts, merging_next, merging_ends, shorter}
use Rattle.jesc_linear.proofs.merge.added.Goals as goal

-- the multipliers as the code has them, and as they are
module _ (a b : ℤ) (f g sum first second : Form) (fa : FitsSigned w64 a) (fb : FitsSigned w64 b) where
  plain : IsMerging (to_z w64 (of_z w64 a)) f (to_z w64 (of_z w64 b)) g sum first second → IsMerging a f b g sum first second
  plain h = subst (λ (x : ℤ). IsMerging x f b g sum first second) (to_z-of_z w64 a fa) (subst (λ (x : ℤ). IsMerging (to_z w64 (of_z w64 a)) f x g sum first second) (to_z-of_z w64 b fb) h)

  coded : IsMerging a f b g sum first second → IsMerging (to_z w64 (of_z w64 a)) f (to_z w64 (of_z w64 b)) g sum first second
  coded h = subst (λ (x : ℤ). IsMerging x f (to_z w64 (of_z w64 b)) g sum first second) (sym (to_z-of_z w64 a fa)) (subst (λ (x : ℤ). IsMerging a f x g sum first second) (sym (to_z-of_z w64 b fb)) h)

small : (x : ℤ) → FitsSigned w64 x → unsigned_abs x ≤ 2 ^ 31 → unsigned_abs (to_z w64 (of_z w64 x)) ≤ 2 ^ 31
small x f h = subst (λ (z : ℤ). unsigned_abs z ≤ 2 ^ 31) (sym (to_z-of_z w64 x f)) h

head_small : (f : Form) (x : ℤ) (t : ℕ) → FitsSigned w64 x → All IsNarrow f → x ≡ head_at f t → unsigned_abs (to_z w64 (of_z w64 x)) ≤ 2 ^ 31
head_small f x t fits all e = small x fits (subst (λ (z : ℤ). unsigned_abs z ≤ 2 ^ 31) (sym e) (head_narrow f t all))

pub loop-term-init : goal.loop-term-init
loop-term-init c =
    coded c.args.a c.args.b c.args.first.now c.args.second.now c.new-sum.result.items c.args.first.now c.args.second.now c.ranges.a c.ranges.b
    (subst (λ (sum : Form). IsMerging c.args.a c.args.first.now c.args.b c.args.second.now sum c.args.first.now c.args.second.now) (sym c.new-sum.ensures.items)
    (merging_starts c.args.a c.args.first.now c.args.b c.args.second.now c.requires.first c.requires.second c.requires.first_narrow c.requires.second_narrow))

pub summed-coefficient-requires : goal.summed-coefficient-requires
summed-coefficient-requires c = record {
  a = small c.args.a c.ranges.a c.requires.a;
  left = head_small c.loop-term.first.now c.head.result c.in-Some.term (record { sfits = c.head.type_inv }) c.loop-term.invariant.left.narrow c.head.ensures;
  b = small c.args.b c.ranges.b c.requires.b;
  right = head_small c.loop-term.second.now c.head-in-Some.result c.in-Some.term (record { sfits = c.head-in-Some.type_inv }) c.loop-term.invariant.right.narrow c.head-in-Some.ensures;
}

pub loop-term-preserved : goal.loop-term-preserved
loop-term-preserved c =
    let a = c.args.a in
    let b = c.args.b in
    let f = c.args.first.now in
    let g = c.args.second.now in
    let sum = c.loop-term.sum.items in
    let first = c.loop-term.first.now in
    let second = c.loop-term.second.now in
    let t = c.in-Some.term in
    let fa : FitsSigned w64 a = c.ranges.a in
    let fb : FitsSigned w64 b = c.ranges.b in
    let fl : FitsSigned w64 c.head.result = record { sfits = c.head.type_inv } in
    let fr : FitsSigned w64 c.head-in-Some.result = record { sfits = c.head-in-Some.type_inv } in
    let fs : FitsSigned w128 c.summed-coefficient.result = record { sfits = c.summed-coefficient.type_inv } in
    let is : c.summed-coefficient.result ≡ a *ℤ c.head.result +ℤ b *ℤ c.head-in-Some.result = simp to_z-of_z at c.summed-coefficient.ensures in
    let heads : a *ℤ c.head.result +ℤ b *ℤ c.head-in-Some.result ≡ a *ℤ head_at first t +ℤ b *ℤ head_at second t = λ i. a *ℤ c.head.ensures i +ℤ b *ℤ c.head-in-Some.ensures i in
    let sum_is : c.append.new.form.items ≡ with_part sum (a *ℤ head_at first t +ℤ b *ℤ head_at second t) t =
    c.in_ok-append.ensures ∙ ap (λ (x : ℤ). with_part sum x t) (to_z-of_z w128 c.summed-coefficient.result fs ∙ is ∙ heads) in
    let next = merging_next a f b g sum first second (plain a b f g sum first second fa fb c.loop-term.invariant) t c.in-Some.ensures.0 c.in-Some.ensures.1 c.in-Some.ensures.2 in
    coded a b f g c.append.new.form.items c.behind-first.result.now c.behind-second.result.now fa fb
    (subst (λ (x : Form). IsMerging a f b g x c.behind-first.result.now c.behind-second.result.now) (sym sum_is)
    (subst (λ (x : Form). IsMerging a f b g (with_part sum (a *ℤ head_at first t +ℤ b *ℤ head_at second t) t) x c.behind-second.result.now) (sym c.behind-first.ensures)
    (subst (λ (x : Form). IsMerging a f b g (with_part sum (a *ℤ head_at first t +ℤ b *ℤ head_at second t) t) (past first t) x) (sym c.behind-second.ensures) next)))

pub loop-term-smaller : goal.loop-term-smaller
loop-term-smaller c =
    let first = c.loop-term.first.now in
    let second = c.loop-term.second.now in
    subst (λ (f : Form). length f + length c.behind-second.result.now < length first + length second) (sym c.behind-first.ensures)
    (subst (λ (f : Form). length (past first c.in-Some.term) + length f < length first + length second) (sym c.behind-second.ensures)
    (shorter first second c.in-Some.term c.in-Some.ensures.0))

pub returns : goal.returns
returns c = merging_ends c.args.a c.args.first.now c.args.b c.args.second.now c.loop-term.sum.items c.loop-term.first.now c.loop-term.second.now
    (plain c.args.a c.args.b c.args.first.now c.args.second.now c.loop-term.sum.items c.loop-term.first.now c.loop-term.second.now c.ranges.a c.ranges.b c.loop-term.invariant)
    c.in_default.ensures.0 c.in_default.ensures.1
