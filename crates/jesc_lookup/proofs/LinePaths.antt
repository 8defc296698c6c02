-- A line is its path of first supertypes and what the classes of the path have behind them, from the last to the first.
use Rattle.std.proofs.Common.{◌≡◌, ℕ, ◌<◌, Bool, true, false, List, [], ◌∷◌, ◌++◌, length, get_or, ◌⊎◌, inl, inr, refl, ap, sym, ◌∙◌, subst, nat_eq, nat_lt, ltb-true, ltb-false, append_assoc}
use Rattle.std.proofs.lemmas.List.Elements.{Contains-append_left, Contains-append_cases}
use Rattle.std.specs.List.{Contains, list_any}
use Rattle.jesc_classes.specs.Order.{Graph, supers, Above, direct, further, IsAcyclic, IsWithin}
use Rattle.jesc_classes.specs.laws.Orders.{later, here, first_or_later, nothing}
use Rattle.jesc_lookup.specs.Lines.{IsLine, IsExtra}
use Rattle.jesc_lookup.specs.LineSets.{added, IsPath, known, top, up, IsClosed}
use Rattle.jesc_lookup.specs.laws.Lines.{contained, tested, one_line, line_above, past}
use Rattle.jesc_lookup.proofs.LineGrowth.{added_in, added_out, added_append}

-- ---- supertypes

pub above_all : (graph : Graph) (a b c : ℕ) → Above graph a b → Above graph b c → Above graph a c
above_all graph _ _ c (direct a b h) r = further a b c h r
above_all graph _ _ d (further a b c h s) r = further a b d h (above_all graph b c d s r)

pub has_row : (graph : Graph) (a s : ℕ) → Contains (supers graph a) s → a < length graph
has_row graph a s c = by (nat_lt a (length graph)) refl
  where
    by : (t : Bool) → nat_lt a (length graph) ≡ t → a < length graph
    by true e = ltb-true a (length graph) e
    by false e = absurd (nothing s (subst (λ xs. Contains xs s) (past graph a (ltb-false a (length graph) e)) c))

pub super_inside : (graph : Graph) → IsWithin graph → (a s : ℕ) → Contains (supers graph a) s → s < length graph
super_inside graph within a s c = subst (λ x. x < length graph) c.2 (within a [] (has_row graph a s c) c.0 s c.1)

pub above_inside : (graph : Graph) → IsWithin graph → (a b : ℕ) → Above graph a b → b < length graph
above_inside graph within _ _ (direct a b h) = super_inside graph within a b h
above_inside graph within _ _ (further a b c h r) = above_inside graph within b c r

-- ---- what is behind a path

abbrev pub behind : List (List ℕ) → List ℕ → List ℕ
behind rows [] = []
behind rows (x ∷ path) = behind rows path ++ get_or rows x []

pub top_extra : (graph : Graph) (class : ℕ) (extra : List ℕ) → supers graph class ≡ [] → IsExtra graph class extra → (extra ≡ []) × IsLine graph class (class ∷ [])
top_extra graph class extra e h = rw e at h

pub first_extra : (graph : Graph) (class first : ℕ) (rest extra : List ℕ) → supers graph class ≡ first ∷ rest → IsExtra graph class extra → (line : List ℕ) → IsLine graph first line → IsLine graph class (class ∷ (line ++ extra))
first_extra graph class first rest extra e h = rw e at h

pub added_known : (line xs : List ℕ) → ((d : ℕ) → Contains xs d → Contains line d) → added line xs ≡ []
added_known line [] f = refl
added_known line (x ∷ xs) f = added_in line x xs (tested line x (f x (here x xs))) ∙ added_known line xs (λ d c. f d (later x xs d c))

-- whatever is above a class of the line is on it, but for classes below that one
abbrev pub IsNear : Graph → List ℕ → ℕ → Type 0
IsNear graph line class = (y : ℕ) → Contains line y → ((d : ℕ) → Above graph y d → Contains line d) ⊎ Above graph y class

-- the rows of the class and of those above it are known
pub record IsReady (graph : Graph) (rows : List (List ℕ)) (class : ℕ) : Type 0 where
  pub own : IsExtra graph class (get_or rows class [])
  pub above : (d : ℕ) → Above graph class d → IsExtra graph d (get_or rows d [])

module _ (graph : Graph) (rows : List (List ℕ)) (within : IsWithin graph) (acyclic : IsAcyclic graph) (lines : (d : ℕ) → d < length graph → (line : List ℕ) × IsLine graph d line) where
  nearer : (line : List ℕ) (class first : ℕ) → Contains (supers graph class) first → IsNear graph line class → IsNear graph (line ++ class ∷ []) first
  nearer line class first s near y c = elim (Contains-append_cases line (class ∷ []) y c) [
    | inl k ↦ elim (near y k) [
      | inl f ↦ inl (λ d a. Contains-append_left line (class ∷ []) d (f d a))
      | inr a ↦ inr (above_all graph y class first a (direct class first s))
    ]
    | inr k ↦ elim (first_or_later class [] y k) [
      | inl e ↦ inr (subst (λ x. Above graph x first) e (direct class first s))
      | inr v ↦ absurd (nothing y v)
    ]
  ]

  all_known : (line : List ℕ) (class : ℕ) → list_any (nat_eq class) line ≡ true → IsNear graph line class → (t : List ℕ) → IsLine graph class t → added line t ≡ []
  all_known line class e near t l = added_known line t (λ d c. elim ((line_above graph class t l d).0 c) [
    | inl f ↦ subst (Contains line) (sym f) (contained line class e)
    | inr a ↦ elim (near class (contained line class e)) [ inl f ↦ f d a | inr r ↦ absurd (acyclic class r) ]
  ])

  pub path_line : (line : List ℕ) (class : ℕ) (path : List ℕ) → IsPath graph line class path → IsReady graph rows class → IsNear graph line class → (t : List ℕ) → IsLine graph class t → added line t ≡ path ++ added (line ++ path) (behind rows path)
  path_line _ _ _ (known line class e) ready near t l = all_known line class e near t l
  path_line _ _ _ (top line class n e) ready near t l =
      let own = top_extra graph class (get_or rows class []) e ready.own in
      ap (added line) (one_line graph class t (class ∷ []) l own.1) ∙ added_out line class [] n ∙ ap (λ xs. class ∷ added (line ++ class ∷ []) xs) (sym own.0)
  path_line _ _ _ (up line class first rest path n e p) ready near t l =
      let s : Contains (supers graph class) first = subst (λ xs. Contains xs first) (sym e) (here first rest) in
      let tf = lines first (super_inside graph within class first s) in
      let row = get_or rows class [] in
      let l1 = line ++ class ∷ [] in
      let back = behind rows path in
      let b = added (l1 ++ path) back in
      let is_ready : IsReady graph rows first = record { own = ready.above first (direct class first s); above = λ d a. ready.above d (further class first d s a) } in
      let before : added l1 tf.0 ≡ path ++ b = path_line l1 first path p is_ready (nearer line class first s near) tf.0 tf.1 in
      ap (added line) (one_line graph class t (class ∷ (tf.0 ++ row)) l (first_extra graph class first rest row e ready.own tf.0 tf.1))
      ∙ added_out line class (tf.0 ++ row) n ∙ ap (λ xs. class ∷ xs) (added_append l1 tf.0 row)
      ∙ ap (λ xs. class ∷ (xs ++ added (l1 ++ xs) row)) before
      ∙ ap (λ xs. class ∷ ((path ++ b) ++ added xs row)) (sym (append_assoc l1 path b))
      ∙ ap (λ xs. class ∷ xs) (append_assoc path b (added ((l1 ++ path) ++ b) row))
      ∙ ap (λ xs. class ∷ (path ++ xs)) (sym (added_append (l1 ++ path) back row))
      ∙ ap (λ xs. class ∷ (path ++ added xs (back ++ row))) (append_assoc line (class ∷ []) path)

  pub closed_path : (line : List ℕ) (class : ℕ) (path : List ℕ) → IsPath graph line class path → IsExtra graph class (get_or rows class []) → ((d : ℕ) → Above graph class d → IsExtra graph d (get_or rows d [])) → IsClosed graph line →
      (t : List ℕ) → IsLine graph class t → path ++ added (line ++ path) (behind rows path) ≡ added line t
  closed_path line class path p own above closed t l = sym (path_line line class path p (record { own = own; above = above }) (λ y c. inl (λ d a. closed y d c a)) t l)
