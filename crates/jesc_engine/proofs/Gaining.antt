-- What an output has gained by several pieces.
use Rattle.std.proofs.Common.{◌≡◌, ℕ, ◌+◌, ◌<◌, ◌≤◌, List, [], ◌∷◌, ◌++◌, length, map, take, drop, get_or, min, Option, Some, None, option_map, Result, Ok, Err, refl, sym, ◌∙◌, ap, arith, append_assoc, subst}
use Rattle.std.specs.List.{flat_map}
use Rattle.std.proofs.Math.Seq.{take-append-add}
use Rattle.std.proofs.lemmas.List.{take-append-le, take_min, append-nil, take_more, take-append-drop}
use Rattle.std.proofs.lemmas.List.Concat.{flat_map-append}
use Rattle.jesc_io.specs.declared.outside.IoError.{IoError}
use Rattle.jesc_io.specs.Contents.{Gains}
use Rattle.jesc_engine.specs.Ends.{GainsAll}

-- nothing was written, which is a prefix of any piece
pub gains_none : (before now : Option (List ℕ)) (piece : List ℕ) (error : IoError) → now ≡ before → Gains before now piece (Err error)
gains_none None now piece error same = (0, same)
gains_none (Some taken) now piece error same = (0, same ∙ ap Some (sym (append-nil taken)))

-- one piece, and then all or a prefix of another
pub gains_then : (before middle now : Option (List ℕ)) (p q : List ℕ) (result : Result Unit IoError)
    → GainsAll before middle p → Gains middle now q result → Gains before now (p ++ q) result
gains_then None middle now p q (Ok done) first second = second ∙ ap (option_map (λ taken. taken ++ q)) first
gains_then (Some taken) middle now p q (Ok done) first second = second ∙ ap (option_map (λ text. text ++ q)) first ∙ ap Some (append_assoc taken p q)
gains_then None middle now p q (Err error) first second = (0, second.1 ∙ ap (option_map (λ taken. taken ++ take second.0 q)) first)
gains_then (Some taken) middle now p q (Err error) first second = (
  length p + second.0,
  second.1 ∙ ap (option_map (λ text. text ++ take second.0 q)) first ∙ ap Some (append_assoc taken p (take second.0 q) ∙ ap (λ text. taken ++ text) (sym (take-append-add p q second.0))),
)

-- a prefix of one piece is one of that piece and more
pub gains_part : (before now : Option (List ℕ)) (p q : List ℕ) (error : IoError) → Gains before now p (Err error) → Gains before now (p ++ q) (Err error)
gains_part None now p q error part = (0, part.1)
gains_part (Some taken) now p q error part =
    let short : min part.0 (length p) ≤ length p = omega arith in
    let same : take (min part.0 (length p)) (p ++ q) ≡ take part.0 p = take-append-le (min part.0 (length p)) p q short ∙ take_min part.0 p in
    (min part.0 (length p), part.1 ∙ ap (λ text. Some (taken ++ text)) (sym same))

pub next_text : {X A : Type 0} (f : X → List A) (xs : List X) (i : ℕ) (x : X) → i < length xs → x ≡ get_or xs i x
    → flat_map f (take (i + 1) xs) ≡ flat_map f (take i xs) ++ f x
next_text f xs i x within item =
    ap (flat_map f) (take_more xs i x within) ∙ flat_map-append f (take i xs) (get_or xs i x ∷ [])
    ∙ ap (λ text. flat_map f (take i xs) ++ text) (append-nil (f (get_or xs i x)) ∙ ap f (sym item))

-- the texts of the first items, and that of the next
pub gains_next : {X : Type 0} (f : X → List ℕ) (xs : List X) (i : ℕ) (x : X) (before middle now : Option (List ℕ))
    → i < length xs → x ≡ get_or xs i x → GainsAll before middle (flat_map f (take i xs)) → GainsAll middle now (f x)
    → GainsAll before now (flat_map f (take (i + 1) xs))
gains_next f xs i x before middle now within item first second =
    subst (GainsAll before now) (sym (next_text f xs i x within item)) (gains_then before middle now (flat_map f (take i xs)) (f x) (Ok tt) first second)

-- the texts of the first items, and then a prefix of that of the next, are a prefix of the texts of all
pub gains_at : {X : Type 0} (f : X → List ℕ) (xs : List X) (i : ℕ) (x : X) (before middle now : Option (List ℕ)) (error : IoError)
    → i < length xs → x ≡ get_or xs i x → GainsAll before middle (flat_map f (take i xs)) → Gains middle now (f x) (Err error)
    → Gains before now (flat_map f xs) (Err error)
gains_at f xs i x before middle now error within item first part =
    let p = flat_map f (take i xs) in
    let rest = flat_map f (drop (i + 1) xs) in
    let whole : flat_map f xs ≡ (p ++ f x) ++ rest =
    ap (flat_map f) (sym (take-append-drop (i + 1) xs)) ∙ flat_map-append f (take (i + 1) xs) (drop (i + 1) xs) ∙ ap (λ text. text ++ rest) (next_text f xs i x within item) in
    subst (λ text. Gains before now text (Err error)) (sym whole)
    (gains_part before now (p ++ f x) rest error (gains_then before middle now p (f x) (Err error) first part))

pub flat_map-map : {X Y A : Type 0} (f : Y → List A) (g : X → Y) (xs : List X) → flat_map f (map g xs) ≡ flat_map (λ x. f (g x)) xs
flat_map-map f g [] = refl
flat_map-map f g (x ∷ xs) = ap (λ rest. f (g x) ++ rest) (flat_map-map f g xs)
