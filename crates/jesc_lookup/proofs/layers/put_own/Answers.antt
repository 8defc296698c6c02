use Rattle.std.proofs.Common.{◌≡◌, ◌+◌, ◌-◌, ◌<◌, [], length, get_or, drop, ap, arith, refl, subst}
use Rattle.std.proofs.lemmas.List.{drop_all}
use Rattle.jesc_lookup.specs.Lines.{or_else}
use Rattle.jesc_lookup.specs.Layers.{Steps, first_keyed}
use Rattle.jesc_lookup.specs.laws.Steps.{own_put, no_step}
use Rattle.jesc_lookup.proofs.layers.put_own.Goals as goal

pub put-requires-clause-version : goal.put-requires-clause-version
put-requires-clause-version c = c.loop-left.invariant.1.there

pub put-requires-clause-key : goal.put-requires-clause-key
put-requires-clause-key c =
    let item = c.requires.row (c.loop-left.left - 1) 0 (omega (arith, c.loop-left.invariant.0, c.loop-left-test.true)) in
    let small = c.requires.keys (get_or c.args.row.now (c.loop-left.left - 1) 0) 0 item in
    let wide = c.loop-left.invariant.1.sized c.loop-left.version [] c.loop-left.invariant.1.there in
    omega (arith, small, wide)

pub loop-left-init : goal.loop-left-init
loop-left-init c = (
  omega arith,
  no_step (length c.args.keys.now) c.args.versions.now c.args.version (λ key old. or_else (first_keyed c.args.keys.now key (drop (length c.args.row.now) c.args.row.now)) old) c.requires.sized c.requires.version
      (λ key old. ap (λ row. or_else (first_keyed c.args.keys.now key row) old) (drop_all (length c.args.row.now) c.args.row.now (omega arith))),
)

pub loop-left-preserved : goal.loop-left-preserved
loop-left-preserved c =
    let i = c.loop-left.left - 1 in
    let inside : i < length c.args.row.now = omega (arith, c.loop-left.invariant.0, c.loop-left-test.true) in
    let next : c.loop-left.left ≡ i + 1 = omega (arith, c.loop-left-test.true) in
    let item = c.requires.row i 0 inside in
    let small = c.requires.keys (get_or c.args.row.now i 0) 0 item in
    let was = subst (λ n. Steps (length c.args.keys.now) c.args.versions.now c.args.version c.loop-left.versions c.loop-left.version (λ key old. or_else (first_keyed c.args.keys.now key (drop n c.args.row.now)) old)) next c.loop-left.invariant.1 in
    (omega (arith, inside), own_put c.args.keys.now c.args.versions.now c.args.version c.loop-left.versions c.loop-left.version c.args.row.now i inside (get_or c.args.keys.now (get_or c.args.row.now i 0) 0) c.put.new.self c.in_ok-version.version refl small c.in_ok-version.ensures.ok c.in_ok-version.ensures.number was)

pub returns : goal.returns
returns c =
    let none : c.loop-left.left ≡ 0 = omega (arith, c.loop-left-test.false) in
    subst (λ n. Steps (length c.args.keys.now) c.args.versions.now c.args.version c.loop-left.versions c.loop-left.version (λ key old. or_else (first_keyed c.args.keys.now key (drop n c.args.row.now)) old)) none c.loop-left.invariant.1
