use Rattle.std.proofs.Common.{◌≡◌, ◌∙◌, [], Result, Ok, Err, OnOk, get_or, set, ap, subst, sym}
use Rattle.std.proofs.lemmas.List.{get_or_default}
use Rattle.jesc_meanings.specs.Labels.{TakesItem, seen}
use Rattle.jesc_meanings.proofs.Naming.{item_added}
use Rattle.jesc_meanings.proofs.label_table.LabelTable.add.Goals as goal

on_ok : {A E P Q : Type 0} (r : Result A E) → (P → Q) → OnOk r P → OnOk r Q
on_ok (Ok x) f h = f h
on_ok (Err e) f h = h

pub returns : goal.returns
returns c =
    let names = c.args.self.now.names in
    let rows = c.args.self.now.rows.items in
    let label = c.in-Some.label in
    let takes = c.in_ok-row.ensures in
    let mid = c.row_of.new.self in
    let row = c.in_ok-row.row in
    let old = c.index_mut.result.now in
    let inside = takes.named.small label.name.now row takes.found in
    let was : old ≡ get_or mid.rows.items row [] = c.index_mut.ensures.value ∙ get_or_default mid.rows.items row old [] inside in
    on_ok c.put.result (λ puts. subst (λ o. TakesItem names rows o c.args.item mid.names (set mid.rows.items row c.put.new.self)) (sym (ap seen c.in-Some.is))
    (item_added names rows label.name.now label.count c.args.item mid.names mid.rows.items row takes old c.put.new.self was puts)) c.put.ensures
