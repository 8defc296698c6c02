use Rattle.std.proofs.Common.{ℕ, List, ◌≡◌, ◌<◌, ◌++◌, ◌∷◌, [], ◌+◌, Some, slice_get, length, arith, refl, subst, ap, sym, ◌∙◌}
use Rattle.std.proofs.lemmas.List.{get_or_append_left, length-append}
use Rattle.std.proofs.lemmas.Option.{get_or_from_slice_get, slice_get_read, slice_get_within}
use Rattle.jesc_accept.proofs.atom_table.AtomTable.push.Goals as goal

-- what a list has, it has with more behind it too
slice_get_kept : {A : Type 0} (xs ys : List A) (k : ℕ) (x : A) → slice_get xs k ≡ Some x → slice_get (xs ++ ys) k ≡ Some x
slice_get_kept xs ys k x h =
    let inside : k < length xs = slice_get_within xs k x h in
    let count : length (xs ++ ys) ≡ length xs + length ys = length-append xs ys in
    slice_get_read (xs ++ ys) (length (xs ++ ys)) k x refl (omega (arith, inside, count)) (sym (get_or_append_left xs ys x k inside ∙ get_or_from_slice_get xs k x x h))

-- the mark of an atom that found no room does no harm to those that are there
pub invariant_of-self-in_err-push : goal.invariant_of-self-in_err-push
invariant_of-self-in_err-push c = λ k atom h.
    let own = c.self.inside.own.now in
    let atoms = own ++ c.self.inside.further in
    let there : slice_get atoms k ≡ Some atom = subst (λ more. slice_get (own ++ more) k ≡ Some atom) c.in_err-push.ensures.err h in
    c.in_ok-note.ensures.ok atoms (ap (λ more. length own + length more) c.as_slice.ensures ∙ sym (length-append own c.self.inside.further)) c.self.invariant k atom (slice_get_kept atoms (c.args.atom ∷ []) k atom there)
