use Rattle.std.proofs.Common.{◌≡◌, ◌<◌, ◌↔◌, ◌⊎◌, ℕ, refl, sym, subst, length, eqb-true, eq-eqb, arith}
use Rattle.std.specs.List.{Contains}
use Rattle.std.proofs.lemmas.Option.{slice_get_read}
use Rattle.jesc_tree.specs.Subtypes.{IsAt}
use Rattle.jesc_tree.proofs.Sets.{last, greatest}
use Rattle.jesc_tree.proofs.Climb.{start, next, less, found}
use Rattle.jesc_tree.proofs.program.Program.reaches.Goals as goal

pub loop-id-init : goal.loop-id-init
loop-id-init c =
    let p = c.args.self.now in
    start p.classes p.fields p.methods c.requires.program c.args.low c.args.high c.add.new.met.keys c.requires.within
    (subst (λ xs. (q : ℕ) → Contains c.add.new.met.keys q ↔ (Contains xs q ⊎ (q ≡ c.args.low))) c.new-met.ensures.empty c.in_ok-add.ensures)

pub returns-then-id-high : goal.returns-then-id-high
returns-then-id-high c =
    let p = c.args.self.now in
    let met = c.loop-id.met.keys in
    let rest = c.pop_last.new.self.keys in
    let id = c.in-Some.id in
    let split = c.in-Some.ensures.removal in
    let f = found p.classes p.fields p.methods c.requires.program c.args.low c.args.high id met c.loop-id.invariant (last met rest id split)
    (greatest met rest id split c.in-Some.ensures.all_below) (omega (arith, c.if-id-high.true)) in
    (λ e. f.0 (eqb-true id c.args.high e), λ r. eq-eqb id c.args.high (f.1 r))

pub bounds-classes-id : goal.bounds-classes-id
bounds-classes-id c =
    let id = c.in-Some.id in
    subst (λ xs. id < length xs) (sym c.classes.ensures) (c.loop-id.invariant.within id (last c.loop-id.met.keys c.pop_last.new.self.keys id c.in-Some.ensures.removal))

pub loop-id-smaller : goal.loop-id-smaller
loop-id-smaller c =
    let p = c.args.self.now in
    let id = c.in-Some.id in
    let split = c.in-Some.ensures.removal in
    let inside = subst (λ xs. id < length xs) (sym c.classes.ensures) (c.loop-id.invariant.within id (last c.loop-id.met.keys c.pop_last.new.self.keys id split)) in
    let here = subst (λ xs. IsAt xs id c.index-classes-id.result) c.classes.ensures (slice_get_read c.classes.result.now (length c.classes.result.now) id c.index-classes-id.result refl inside c.index-classes-id.is) in
    less p.classes p.fields p.methods c.requires.program id c.loop-id.met.keys c.pop_last.new.self.keys c.add_supertypes.new.met.keys c.index-classes-id.result split
    c.in-Some.ensures.all_below here c.in_ok-add_supertypes.ensures

pub loop-id-preserved : goal.loop-id-preserved
loop-id-preserved c =
    let p = c.args.self.now in
    let id = c.in-Some.id in
    let split = c.in-Some.ensures.removal in
    let inside = subst (λ xs. id < length xs) (sym c.classes.ensures) (c.loop-id.invariant.within id (last c.loop-id.met.keys c.pop_last.new.self.keys id split)) in
    let here = subst (λ xs. IsAt xs id c.index-classes-id.result) c.classes.ensures (slice_get_read c.classes.result.now (length c.classes.result.now) id c.index-classes-id.result refl inside c.index-classes-id.is) in
    next p.classes p.fields p.methods c.requires.program c.args.low c.args.high id c.loop-id.met.keys c.pop_last.new.self.keys c.add_supertypes.new.met.keys c.index-classes-id.result
    c.loop-id.invariant split here (omega (arith, c.if-id-high.false)) c.in_ok-add_supertypes.ensures
