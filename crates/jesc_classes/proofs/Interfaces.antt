-- The kinds of classes by number, behind those of the predefined ones.
use Rattle.std.proofs.Common.{◌≡◌, ◌↔◌, ℕ, zero, suc, ◌-◌, ◌<◌, ◌≤◌, Bool, true, false, List, [], ◌∷◌, ◌++◌, map, length, get_or, Option, Some, None, leb, leb-true, leb-false, refl, ap, sym, ◌∙◌, arith, true≢false}
use Rattle.std.specs.Prelude.{slice_get}
use Rattle.std.specs.Option.{option_map}
use Rattle.std.proofs.lemmas.List.{length-map, get_or-map}
use Rattle.std.proofs.lemmas.Option.{slice_get-map, slice_get_read}
use Rattle.jesc_tree.specs.Programs.{predefined}
use Rattle.jesc_classes.specs.declared.source.GivenClass.{GivenClass}
use Rattle.jesc_classes.specs.Headings.{Source, kinds, IsInterface}
use Rattle.jesc_classes.specs.Sources.{seen}

behind : {X : Type 0} (front rest : List X) (n : ℕ) → length front ≤ n → slice_get (front ++ rest) n ≡ slice_get rest (n - length front)
behind [] rest n l = let same : n ≡ n - 0 = omega arith in ap (slice_get rest) same
behind (x ∷ front) rest zero l = absurd (omega (arith, l))
behind (x ∷ front) rest (suc n) l =
    let same : n - length front ≡ suc n - suc (length front) = omega arith in
    behind front rest n (omega (arith, l)) ∙ ap (slice_get rest) same

in_front : {X : Type 0} (front : List X) (rest : List Bool) (n : ℕ) → n < length front → slice_get (map (λ p. false) front ++ rest) n ≡ Some false
in_front [] rest n l = absurd (omega (arith, l))
in_front (x ∷ front) rest zero l = refl
in_front (x ∷ front) rest (suc n) l = in_front front rest n (omega (arith, l))

at_given : (rest : List Bool) (n : ℕ) → 7 ≤ n → slice_get (map (λ p. false) predefined ++ rest) n ≡ slice_get rest (n - 7)
at_given rest n l = behind (map (λ p. false) predefined) rest n l

at_predefined : (rest : List Bool) (n : ℕ) → n < 7 → slice_get (map (λ p. false) predefined ++ rest) n ≡ Some false
at_predefined rest n l = in_front predefined rest n l

past_end : {X : Type 0} (xs : List X) (k : ℕ) → length xs ≤ k → slice_get xs k ≡ None
past_end [] k l = refl
past_end (x ∷ xs) zero l = absurd (omega (arith, l))
past_end (x ∷ xs) (suc k) l = past_end xs k (omega (arith, l))

exactly : (o : Option Bool) (b : Bool) → o ≡ Some b → (b ≡ true) ↔ (o ≡ Some true)
exactly o b is = (λ e. is ∙ ap Some e, λ h. cc)

kind_given : (given : List Source) (n k : ℕ) (g : Source) → 7 ≤ n → k ≡ n - 7 → k < length given → g ≡ get_or given k g → slice_get (kinds given) n ≡ Some g.tree.is_interface
kind_given given n k g l at inside is =
    at_given (map (λ s. s.tree.is_interface) given) n l ∙ ap (slice_get (map (λ s. s.tree.is_interface) given)) (sym at)
    ∙ slice_get-map (λ s. s.tree.is_interface) given k ∙ ap (option_map (λ s. s.tree.is_interface)) (slice_get_read given (length given) k g refl inside is)

-- ---- whether a class is an interface, by the list of the given ones

module _ (given : List Source) (list : List GivenClass) (same : map seen list ≡ given) (n k : ℕ) (at : k ≡ n - 7) where
  pub where_given : (g : GivenClass) → 7 ≤ n → k < length list → g ≡ get_or list k g → (g.tree.now.is_interface ≡ true) ↔ IsInterface given n
  where_given g l inside is =
      exactly (slice_get (kinds given) n) g.tree.now.is_interface
      (kind_given given n k (seen g) l at (omega (arith, inside, length-map list seen, ap length same))
      (ap seen is ∙ sym (get_or-map seen list k g (seen g) inside) ∙ ap (λ l. get_or l k (seen g)) same))

  pub where_predefined : n < 7 → (leb 7 n ≡ true) ↔ IsInterface given n
  where_predefined l =
      let no : slice_get (kinds given) n ≡ Some false = at_predefined (map (λ s. s.tree.is_interface) given) n l in
      (λ e. absurd (omega (arith, l, leb-true 7 n e)), λ h. cc)

  pub where_none : length list ≤ k → (false ≡ true) ↔ IsInterface given n
  where_none end = (λ e. absurd (true≢false (sym e)), λ h. by (leb 7 n) refl h)
    where
      by : (b : Bool) → leb 7 n ≡ b → IsInterface given n → false ≡ true
      by true e h =
          let none = past_end (map (λ s. s.tree.is_interface) given) k (omega (arith, end, length-map list seen, ap length same, length-map given (λ s. s.tree.is_interface))) in
          let gone : slice_get (kinds given) n ≡ None = at_given (map (λ s. s.tree.is_interface) given) n (leb-true 7 n e) ∙ ap (slice_get (map (λ s. s.tree.is_interface) given)) (sym at) ∙ none in
          cc
      by false e h =
          let no : slice_get (kinds given) n ≡ Some false = at_predefined (map (λ s. s.tree.is_interface) given) n (leb-false 7 n e) in
          cc
