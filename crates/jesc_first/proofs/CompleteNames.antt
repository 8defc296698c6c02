-- Names that are read where they stand, and slots that are found in a scope of distinct names.
use Rattle.std.proofs.Common.{◌≡◌, ◌≢◌, ℕ, ◌<◌, ◌≤◌, Bool, true, false, ◌&&◌, not, nat_le, nat_lt, List, [], ◌∷◌, ◌++◌, length, get_or, suc, zero, refl, sym, ap, ◌∙◌, subst, arith, All, Option, Some, None, slice_get, append_assoc}
use Rattle.std.specs.Option.{unwrap_or}
use Rattle.std.specs.Str.{bytes_eq}
use Rattle.std.specs.List.{list_all, AllPairs, position_or_len}
use Rattle.std.specs.Fmt.{decimal}
use Rattle.std.specs.Str.Parse.{digits_value}
use Rattle.std.proofs.lemmas.Fmt.{decimal_is_IsNumeral}
use Rattle.std.proofs.lemmas.Bool.Decides.{nat_tests}
use Rattle.std.proofs.lemmas.List.Quantifiers.{position-Some, all_pairs_push}
use Rattle.std.proofs.lemmas.List.Elements.{All-push, All-nil}
use Rattle.std.proofs.lemmas.List.Sums.{position_or_len_is}
use Rattle.std.proofs.lemmas.Option.{unwrap_or-slice_get}
use Rattle.std.proofs.lemmas.Slice.Eq.{bytes_eq-Decides}
use Rattle.jesc_lexer.specs.declared.token.TokenKind.{TokenKind}
use Rattle.jesc_lexer.specs.declared.token.TokenKind.TheVariants.{Word}
use Rattle.jesc_ast.specs.Lexemes.{Lexeme}
use Rattle.jesc_first.specs.Names.{is_word_byte}
use Rattle.jesc_first.specs.Spelling.{Piece, word}
use Rattle.jesc_first.specs.Names.{IsName, IsNew, AreNew, is_reserved}
use Rattle.jesc_first.specs.Parsing.{Texts, same_kind, is_plain, is_name_text, name_in, slot_in, number_in, new_name_in}
use Rattle.jesc_first.proofs.CompleteBase.{Spans}

-- what holds of all but the first
pub all_tail : {X : Type 0} (P : X → Type 0) (x : X) (xs : List X) → All P (x ∷ xs) → All P xs
all_tail P x xs h = λ k d l. h (suc k) d (omega arith)

-- a text is itself
pub same_text : (text : List ℕ) → bytes_eq text text ≡ true
same_text text = (bytes_eq-Decides text text).1 refl

-- texts that are not equal
pub other_text : (a b : List ℕ) → a ≢ b → bytes_eq a b ≡ false
other_text a b h = by (bytes_eq a b) refl
  where
    by : (x : Bool) → bytes_eq a b ≡ x → x ≡ false
    by true e = absurd (h ((bytes_eq-Decides a b).0 e))
    by false e = refl

-- a name is no reserved word
pub name_other : (text reserved : List ℕ) → IsName text → is_reserved reserved ≡ true → bytes_eq text reserved ≡ false
name_other [] reserved h r = absurd h
name_other (b ∷ bytes) reserved h r = other_text (b ∷ bytes) reserved (λ e. no (ap is_reserved e))
  where
    no : is_reserved (b ∷ bytes) ≡ is_reserved reserved → ⊥
    no e = let k : false ≡ true = sym h.2 ∙ e ∙ r in cc

-- all bytes of a name pass the test of its bytes
all_word : (bytes : List ℕ) → All (λ c. is_word_byte c ≡ true) bytes → list_all is_word_byte bytes ≡ true
all_word [] h = refl
all_word (b ∷ bytes) h =
    let a : is_word_byte b ≡ true = h 0 b (omega arith) in
    let k : list_all is_word_byte bytes ≡ true = all_word bytes (all_tail (λ c. is_word_byte c ≡ true) b bytes h) in
    rw (a, k) refl

-- a name passes the test of names
pub name_passes : (text : List ℕ) → IsName text → is_name_text text ≡ true
name_passes [] h = absurd h
name_passes (b ∷ bytes) h = let k = all_word bytes h.1 in rw (h.0, k, h.2) refl

-- a name is read where the next piece is one
pub name_next : (ts : List Lexeme) (text : List ℕ) (ps : List Piece) (rest : List Lexeme) → Spans ts (word false text ∷ ps) rest → IsName text
    → (mid : List Lexeme) × (name_in ts ≡ Some (text, mid)) × Spans mid ps rest
name_next [] text ps rest h n = absurd h
name_next (t ∷ ts) text ps rest h n =
    let plain : is_plain t ≡ true = ap (λ (k : TokenKind). same_kind k Word && not t.note) h.0.kind ∙ ap (λ (b : Bool). not b) h.0.note in
    let named : is_name_text t.text ≡ true = ap is_name_text h.0.text ∙ name_passes text n in
    let read : name_in (t ∷ ts) ≡ Some (t.text, ts) = rw (plain, named) refl in
    (ts, read ∙ ap (λ (x : List ℕ). Some (x, ts)) h.0.text, h.1)

-- a scope of distinct names
pub record IsScope (scope : Texts) : Type 0 where
  pub names : All IsName scope
  pub apart : AllPairs (λ a b. a ≢ b) scope

-- no names are distinct
pub no_scope : IsScope []
no_scope = record { names = All-nil IsName; apart = λ i j d l m. absurd (omega arith) }

-- within a list its default doesn't matter
get_any : (xs : Texts) (i : ℕ) (c d : List ℕ) → i < length xs → get_or xs i c ≡ get_or xs i d
get_any [] i c d l = absurd (omega arith)
get_any (x ∷ xs) zero c d l = refl
get_any (x ∷ xs) (suc i) c d l = get_any xs i c d (omega arith)

-- a new name leaves the names distinct
pub scope_push : (scope : Texts) (name : List ℕ) → IsScope scope → IsNew scope name → IsScope (scope ++ name ∷ [])
scope_push scope name s n = record {
  names = All-push IsName scope name s.names n.0;
  apart = all_pairs_push (λ a b. a ≢ b) scope name s.apart (λ k d l e. n.1 (k, l, get_any scope k name d l ∙ e));
}

-- names that are each new after those before them are a scope
pub scope_all : (scope names : Texts) → IsScope scope → AreNew scope names → IsScope (scope ++ names)
scope_all scope [] s n = subst IsScope (sym (nothing scope)) s
  where
    nothing : (xs : Texts) → xs ++ [] ≡ xs
    nothing [] = refl
    nothing (x ∷ xs) = ap (λ (ys : Texts). x ∷ ys) (nothing xs)
scope_all scope (name ∷ names) s n =
    subst IsScope (append_assoc scope (name ∷ []) names) (scope_all (scope ++ name ∷ []) names (scope_push scope name s n.0) n.1)

-- the slot of a name is found
pub slot_found : (scope : Texts) (i : ℕ) → IsScope scope → i < length scope → slot_in scope (unwrap_or (slice_get scope i) []) ≡ Some i
slot_found scope i s l = rw (unwrap_or-slice_get scope i []) (at (get_or scope i []) refl)
  where
    at : (text : List ℕ) → get_or scope i [] ≡ text → slot_in scope text ≡ Some i
    at text e =
        let place : position_or_len (λ name. bytes_eq text name) scope ≡ i =
        position_or_len_is (λ name. bytes_eq text name) scope i [] (omega arith)
        (λ k m. other_text text (get_or scope k []) (λ q. s.apart k i [] m l (sym (e ∙ q))))
        (λ m. (bytes_eq-Decides text (get_or scope i [])).1 (sym e)) in
        let less : nat_lt i (length scope) ≡ true = grind (arith, nat_tests) in
        rw (place, less) refl

-- a name at its slot
pub slot_name : (scope : Texts) (i : ℕ) → IsScope scope → i < length scope → IsName (unwrap_or (slice_get scope i) [])
slot_name scope i s l = rw (unwrap_or-slice_get scope i []) (s.names i [] l)

-- what is no name is at no slot
pub slot_none : (scope : Texts) (text : List ℕ) → ((i : ℕ) → i < length scope → get_or scope i text ≢ text) → slot_in scope text ≡ None
slot_none scope text n = by (slot_in scope text) refl
  where
    by : (r : Option ℕ) → slot_in scope text ≡ r → r ≡ None
    by None e = refl
    by (Some j) e =
        let p = position-Some (λ name. bytes_eq text name) scope j text e in
        absurd (n j p.0 (sym ((bytes_eq-Decides text (get_or scope j text)).0 p.1)))

-- a new name is at no slot
pub slot_new : (scope : Texts) (name : List ℕ) → IsNew scope name → slot_in scope name ≡ None
slot_new scope name n = slot_none scope name (λ i l e. n.1 (i, l, e))

-- a reserved word is at no slot
pub slot_reserved : (scope : Texts) (text : List ℕ) → IsScope scope → is_reserved text ≡ true → slot_in scope text ≡ None
slot_reserved scope text s r = slot_none scope text (λ i l e. no (get_or scope i text) e (s.names i text l))
  where
    no : (name : List ℕ) → name ≡ text → IsName name → ⊥
    no name e n =
        let a : bytes_eq name text ≡ false = name_other name text n r in
        let b : bytes_eq name text ≡ true = (bytes_eq-Decides name text).1 e in
        let k : false ≡ true = sym a ∙ b in cc

-- a new name is read, and added
pub new_name_next : (scope : Texts) (ts : List Lexeme) (text : List ℕ) (ps : List Piece) (rest : List Lexeme) → Spans ts (word false text ∷ ps) rest → IsNew scope text
    → (mid : List Lexeme) × (new_name_in scope ts ≡ Some ((text, scope ++ text ∷ []), mid)) × Spans mid ps rest
new_name_next scope ts text ps rest h n =
    let r = name_next ts text ps rest h n.0 in
    let none : slot_in scope text ≡ None = slot_new scope text n in
    (r.0, rw (r.1, none) refl, r.2)

-- the number that decimal digits write
pub number_read : (n : ℕ) → n ≤ 2147483647 → number_in (decimal n) ≡ Some n
number_read n l =
    let value : digits_value 10 (decimal n) ≡ n = (decimal_is_IsNumeral n (omega arith)).1 in
    let less : nat_le n 2147483647 ≡ true = grind (arith, nat_tests) in
    let same : bytes_eq (decimal n) (decimal n) ≡ true = same_text (decimal n) in
    rw (value, less, same) refl
