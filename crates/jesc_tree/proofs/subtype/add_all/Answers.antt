use Rattle.std.proofs.Common.{◌∙◌, ◌∷◌, [], ap, sym, subst, map, take, get_or}
use native.Mathlib.Numerals.{unary_clauses}
use Rattle.std.proofs.Math.Seq.{take-suc}
use Rattle.std.proofs.lemmas.List.{take_all, map-append}
use Rattle.jesc_tree.specs.declared.ids.ClassId.{ClassId}
use Rattle.jesc_tree.specs.Subtypes.{class_id}
use Rattle.jesc_tree.proofs.Sets.{Adds, adds-both, adds-one}
use Rattle.jesc_tree.proofs.subtype.add_all.Goals as goal

pub loop-interface-preserved : goal.loop-interface-preserved
loop-interface-preserved c =
    let xs = c.args.interfaces.now in
    let i = c.loop-interface.interface-index in
    let before = map (λ (x : ClassId). x.0) (take i xs) in
    let x = get_or xs i (class_id 0) in
    let old = c.args.met.now.keys in
    let new = c.add.new.met.keys in
    let e = ap (map (λ (y : ClassId). y.0)) (take-suc xs i (class_id 0) c.loop-interface-test.true) ∙ map-append (λ (y : ClassId). y.0) (take i xs) (x ∷ []) in
    simp unary_clauses (subst (λ more. Adds old more new) (sym e)
    (adds-both old c.loop-interface.met.keys new before (x.0 ∷ []) c.loop-interface.invariant (adds-one c.loop-interface.met.keys new x.0 c.in_ok-add.ensures)))

pub returns : goal.returns
returns c =
    subst (λ xs. Adds c.args.met.now.keys (map (λ (i : ClassId). i.0) xs) c.loop-interface.met.keys) (take_all c.loop-interface.interface-index c.args.interfaces.now c.loop-interface-test.false) c.loop-interface.invariant
