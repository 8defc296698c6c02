use Rattle.std.proofs.Common.{◌↔◌, ℕ, ◌<◌, List, length, get_or, Contains, sym, subst}
use Rattle.jesc_members.specs.Groups.{IsMember}
use Rattle.jesc_names.specs.TablesRows.{HasRising, AreMembersOf}
use Rattle.jesc_names.proofs.TablesZips.{if_ok}
use Rattle.jesc_names.proofs.TablesRising.{all_below, members_found}
use Rattle.jesc_names.proofs.members.members_of.Goals as goal

pub id_set-requires : goal.id_set-requires
id_set-requires c =
    let ids = c.args.ids.ids.now in
    subst (λ (ms : List ℕ). (i : ℕ) → i < length ms → get_or ms i 0 < length ids) (sym c.as_slice.ensures)
    (all_below c.args.groups.now c.args.number c.in_ok-members.members ids c.requires.count c.in_ok-members.ensures.all)

pub returns : goal.returns
returns c =
    let given = c.args.groups.now in
    let n = c.args.number in
    let order = c.args.ids.order.now in
    let ids = c.args.ids.ids.now in
    let keys = c.in_ok-set.set.keys in
    let all = subst (λ (ms : List ℕ). (f : ℕ) → Contains ms f ↔ IsMember given f n) (sym c.as_slice.ensures) c.in_ok-members.ensures.all in
    if_ok {P = HasRising keys} {Q = AreMembersOf given order n} c.rising.result
    (λ xs h. members_found given n order ids c.as_slice.result.now keys xs c.requires.apart c.requires.each c.requires.count all c.in_ok-set.ensures h) c.rising.ensures
