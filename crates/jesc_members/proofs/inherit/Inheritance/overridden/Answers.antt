use Rattle.std.proofs.Common.{◌↔◌, ◌≡◌, true, subst, sym, arith}
use Rattle.std.specs.List.{Contains}
use Rattle.jesc_members.specs.Methods.{is_final, methods_of}
use Rattle.jesc_members.specs.Overriding.{Differ, IsLikeAbove, IsOneHidden}
use Rattle.jesc_members.specs.Seen.{seen_method}
use Rattle.jesc_members.proofs.InheritOverrides.{class_small, final_is, found_there, hidden_is, summary_small, unlike_is}
use Rattle.jesc_members.proofs.inherit.Inheritance.overridden.Goals as goal

pub key-key-requires-clause-names : goal.key-key-requires-clause-names
key-key-requires-clause-names c = c.self.invariant.methods_known.names_small c.as_slice.result.now

pub key-key-requires-clause-rows : goal.key-key-requires-clause-rows
key-key-requires-clause-rows c = c.self.invariant.methods_known.rows_small

pub key-key-requires-clause-there : goal.key-key-requires-clause-there
key-key-requires-clause-there c =
    let s = c.self.inside in
    let m = seen_method c.args.method.now in
    let there = subst (λ g. Contains (methods_of g) m) (sym c.self.view_is) c.requires in
    found_there s.classes.now s.methods s.summaries s.declared.now c.self.invariant.overrides_known m there c.as_slice.result.now c.len.result c.as_slice.ensures c.len.ensures

pub above-requires-clause-class : goal.above-requires-clause-class
above-requires-clause-class c =
    let s = c.self.inside in
    let m = seen_method c.args.method.now in
    let there = subst (λ g. Contains (methods_of g) m) (sym c.self.view_is) c.requires in
    omega (arith, class_small s.classes.now s.methods s.summaries s.declared.now c.self.invariant.overrides_known m there, c.self.invariant.overrides_known.summed.count)

pub above-requires-clause-version : goal.above-requires-clause-version
above-requires-clause-version c = c.self.invariant.overrides_known.summed.there

pub compared-requires : goal.compared-requires
compared-requires c =
    let s = c.self.inside in
    let m = seen_method c.args.method.now in
    let there = subst (λ g. Contains (methods_of g) m) (sym c.self.view_is) c.requires in
    summary_small s.classes.now s.methods s.summaries s.declared.now c.self.invariant.overrides_known m there c.key-key.result c.above.result c.above.ensures

pub returns-clause-differs : goal.returns-clause-differs
returns-clause-differs c =
    let s = c.self.inside in
    let m = seen_method c.args.method.now in
    let there = subst (λ g. Contains (methods_of g) m) (sym c.self.view_is) c.requires in
    let is = unlike_is s.classes.now s.methods s.summaries s.declared.now c.self.invariant.overrides_known m there c.as_slice.result.now c.len.result c.key-key.result c.above.result c.as_slice.ensures c.len.ensures c.key-key.ensures c.above.ensures in
    subst (λ g. (c.compared.result.differs ≡ true) ↔ IsLikeAbove g m (Differ m)) c.self.view_is (λ t. is.1 (c.compared.ensures.differs.0 t), λ k. c.compared.ensures.differs.1 (is.0 k))

pub returns-clause-hidden : goal.returns-clause-hidden
returns-clause-hidden c =
    let s = c.self.inside in
    let m = seen_method c.args.method.now in
    let there = subst (λ g. Contains (methods_of g) m) (sym c.self.view_is) c.requires in
    let is = hidden_is s.classes.now s.methods s.summaries s.declared.now c.self.invariant.overrides_known m there c.as_slice.result.now c.len.result c.key-key.result c.above.result c.as_slice.ensures c.len.ensures c.key-key.ensures c.above.ensures in
    subst (λ g. (c.compared.result.is_hidden ≡ true) ↔ IsLikeAbove g m (IsOneHidden m)) c.self.view_is (λ t. is.1 (c.compared.ensures.hidden.0 t), λ k. c.compared.ensures.hidden.1 (is.0 k))

pub returns-clause-sealed : goal.returns-clause-sealed
returns-clause-sealed c =
    let s = c.self.inside in
    let m = seen_method c.args.method.now in
    let there = subst (λ g. Contains (methods_of g) m) (sym c.self.view_is) c.requires in
    let is = final_is s.classes.now s.methods s.summaries s.declared.now c.self.invariant.overrides_known m there c.as_slice.result.now c.len.result c.key-key.result c.above.result c.as_slice.ensures c.len.ensures c.key-key.ensures c.above.ensures in
    subst (λ g. (c.compared.result.is_final ≡ true) ↔ IsLikeAbove g m (λ b. is_final b.tree ≡ true)) c.self.view_is (λ t. is.1 (c.compared.ensures.sealed.0 t), λ k. c.compared.ensures.sealed.1 (is.0 k))
