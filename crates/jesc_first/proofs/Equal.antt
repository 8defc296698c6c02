-- What the tests of the reader on one token compute.
use Rattle.std.proofs.Common.{◌≡◌, ◌≢◌, ℕ, ◌+◌, ◌<◌, ◌≤◌, Bool, true, false, not, cond, if◌then◌else◌, nat_le, nat_lt, List, [], ◌∷◌, ◌++◌, length, get_or, take, drop, suc, zero, pos, negsuc, ℤ, Option, Some, None, refl, sym, ap, ◌∙◌, subst, arith, bytes_eq, Bor, position, codes, ◌-◌, append-nil, append_assoc}
use Rattle.std.specs.List.{list_any, prefix_len}
use Rattle.std.specs.Fmt.{decimal}
use Rattle.std.specs.Str.Parse.{digits_value}
use Rattle.std.proofs.lemmas.Fmt.{decimal_is_IsNumeral, decimal_digit, decimal_nonempty, first_decimal}
use Rattle.std.proofs.lemmas.Slice.Eq.{bytes_eq-Decides}
use Rattle.std.proofs.lemmas.Bool.Decides.{nat_tests}
use Rattle.std.proofs.Math.Seq.{take-length}
use Rattle.jesc_lexer.specs.declared.token.TokenKind.{TokenKind}
use Rattle.jesc_lexer.specs.declared.token.TokenKind.TheVariants.{Word, Sign}
use Rattle.jesc_ast.specs.Lexemes.{Lexeme}
use lib.Signed.{le_z}
use lib.IntN.{nat_abs}
use Rattle.jesc_text.specs.Numbers.{IsNatural, IsNumber}
use Rattle.jesc_first.specs.Parsing.{number_in, slot_in, is_token, from_static, expected, operator_in}
use Rattle.jesc_first.specs.Reads.{Adds, Keeps}
use Rattle.jesc_first.proofs.Texts.{number_is}
use Rattle.jesc_first.proofs.Shown.{shown}

-- ---- numbers

number_some : (text : List ℕ) (m : ℕ) → digits_value 10 text ≡ m → nat_le m 2147483647 ≡ true → bytes_eq text (decimal m) ≡ true → number_in text ≡ Some m
number_some text m e a b = rw (e, a, b)

pub number_at : (text : List ℕ) (m : ℕ) → IsNumber text (pos m) → m ≤ 2147483647 → number_in text ≡ Some m
number_at text m h b =
    number_some text m h.1 (grind (arith, nat_tests)) ((bytes_eq-Decides text (decimal m)).1 (number_is text (pos m) m h refl b))

number_none : (text : List ℕ) → (digits_value 10 text ≤ 2147483647 → text ≡ decimal (digits_value 10 text) → ⊥) → number_in text ≡ None
number_none text never = by (nat_le (digits_value 10 text) 2147483647) (bytes_eq text (decimal (digits_value 10 text))) refl refl
  where
    by : (a b : Bool) → nat_le (digits_value 10 text) 2147483647 ≡ a → bytes_eq text (decimal (digits_value 10 text)) ≡ b → number_in text ≡ None
    by true true p q = absurd (never (grind (arith, nat_tests)) ((bytes_eq-Decides text (decimal (digits_value 10 text))).0 q))
    by true false p q = rw (p, q)
    by false b p q = rw p

is_natural : (n : ℕ) → n ≤ 2147483647 → IsNatural (decimal n)
is_natural n b = record {
  digits = (decimal_is_IsNumeral n (omega arith)).0.1;
  some = decimal_nonempty n (omega arith);
  front = by n b;
}
  where
    by : (m : ℕ) → m ≤ 2147483647 → 1 < length (decimal m) → get_or (decimal m) 0 0 ≢ 48
    by zero s l e = omega (arith, ap length (decimal_digit 0 (omega arith)))
    by (suc m) s l e = omega (arith, first_decimal (suc m) (omega arith) (omega arith))

pub number_missing : (text : List ℕ) → ((z : ℤ) → ¬ (IsNumber text z)) → number_in text ≡ None
number_missing text never = number_none text (λ b e. never (pos (digits_value 10 text)) (subst (λ (t : List ℕ). IsNatural t) (sym e) (is_natural (digits_value 10 text) b), refl, omega arith))

pub number_large : (text : List ℕ) (m : ℕ) → IsNumber text (pos m) → 2147483647 < m → number_in text ≡ None
number_large text m h b = number_none text (λ s e. omega (arith, h.1))

pub number_below : (text : List ℕ) (m : ℕ) → IsNumber text (negsuc m) → number_in text ≡ None
number_below text m h = number_none text (λ b e. by (digits_value 10 text) b (ap (λ (t : List ℕ). get_or t 0 0) (sym e) ∙ h.0))
  where
    by : (n : ℕ) → n ≤ 2147483647 → get_or (decimal n) 0 0 ≡ 45 → ⊥
    by zero s e = omega (arith, ap (λ (t : List ℕ). get_or t 0 0) (decimal_digit 0 (omega arith)))
    by (suc n) s e = omega (arith, first_decimal (suc n) (omega arith) (omega arith))

pub number_found : (text : List ℕ) (z y : ℤ) → y ≡ z → IsNumber text z → le_z (pos 0) y ≡ true → le_z y (pos 2147483647) ≡ true → Some (nat_abs y) ≡ number_in text
number_found text (pos m) y e h a b =
    let q : le_z (pos m) (pos 2147483647) ≡ true = subst (λ (x : ℤ). le_z x (pos 2147483647) ≡ true) e b in
    let w : m ≤ 2147483647 = grind (arith, nat_tests) in
    subst (λ (x : ℤ). Some (nat_abs x) ≡ number_in text) (sym e) (sym (number_at text m h w))
number_found text (negsuc m) y e h a b = absurd (let q : le_z (pos 0) (negsuc m) ≡ true = subst (λ (x : ℤ). le_z (pos 0) x ≡ true) e a in cc)

pub number_over : (text : List ℕ) (z y : ℤ) → y ≡ z → IsNumber text z → le_z y (pos 2147483647) ≡ false → None ≡ number_in text
number_over text (pos m) y e h o =
    let q : le_z (pos m) (pos 2147483647) ≡ false = subst (λ (x : ℤ). le_z x (pos 2147483647) ≡ false) e o in
    let w : 2147483647 < m = grind (arith, nat_tests) in
    sym (number_large text m h w)
number_over text (negsuc m) y e h o = sym (number_below text m h)

pub number_under : (text : List ℕ) (z y : ℤ) → y ≡ z → IsNumber text z → le_z (pos 0) y ≡ false → None ≡ number_in text
number_under text (pos m) y e h o = absurd (let q : le_z (pos 0) (pos m) ≡ false = subst (λ (x : ℤ). le_z (pos 0) x ≡ false) e o in grind (arith, nat_tests))
number_under text (negsuc m) y e h o = sym (number_below text m h)

-- ---- places of names

lt_suc : (x y : ℕ) → nat_lt (1 + x) (suc y) ≡ nat_lt x y
lt_suc x y = grind (arith, nat_tests)

zero_lt : (n : ℕ) → nat_lt 0 (suc n) ≡ true
zero_lt n = grind (arith, nat_tests)

-- how many names stand before the first that passes
before_shown : (p : List ℕ → Bool) (ks : List (Bor (List ℕ))) → prefix_len (λ n. not (p n)) (shown ks) ≡ prefix_len (λ k. not (p k.now)) ks
before_shown p [] = refl
before_shown p (k ∷ ks) = ap (λ n. cond (not (p k.now)) (1 + n) 0) (before_shown p ks)

length_shown : (ks : List (Bor (List ℕ))) → length (shown ks) ≡ length ks
length_shown [] = refl
length_shown (k ∷ ks) = ap suc (length_shown ks)

pub slot_shown : (w : List ℕ) (ks : List (Bor (List ℕ))) → position (λ k. bytes_eq w k.now) ks ≡ slot_in (shown ks) w
slot_shown w ks = sym (rw (before_shown (λ n. bytes_eq w n) ks, length_shown ks) refl)

any_place : (p : List ℕ → Bool) (ks : List (Bor (List ℕ))) → nat_lt (prefix_len (λ n. not (p n)) (shown ks)) (length (shown ks)) ≡ list_any (λ k. p k.now) ks
any_place p [] = refl
any_place p (k ∷ ks) = by (p k.now) refl (any_place p ks)
  where
    by : (v : Bool) → p k.now ≡ v → nat_lt (prefix_len (λ n. not (p n)) (shown ks)) (length (shown ks)) ≡ list_any (λ k. p k.now) ks → nat_lt (prefix_len (λ n. not (p n)) (shown (k ∷ ks))) (length (shown (k ∷ ks))) ≡ list_any (λ k. p k.now) (k ∷ ks)
    by true e more = rw e (zero_lt (length (shown ks)))
    by false e more = rw e (lt_suc (prefix_len (λ n. not (p n)) (shown ks)) (length (shown ks)) ∙ more)

shown_push : (ks : List (Bor (List ℕ))) (k : Bor (List ℕ)) → shown (ks ++ k ∷ []) ≡ shown ks ++ k.now ∷ []
shown_push [] k = refl
shown_push (x ∷ ks) k = ap (λ (ys : List (List ℕ)). x.now ∷ ys) (shown_push ks k)

pub take_shown : (n : ℕ) (ks : List (Bor (List ℕ))) → shown (take n ks) ≡ take n (shown ks)
take_shown zero ks = refl
take_shown (suc n) [] = refl
take_shown (suc n) (k ∷ ks) = ap (λ (ys : List (List ℕ)). k.now ∷ ys) (take_shown n ks)

pub adds_shown : (w : Bor (List ℕ)) (ks new : List (Bor (List ℕ))) (added : Bool) → added ≡ not (list_any (λ k. bytes_eq w.now k.now) ks)
    → new ≡ (if list_any (λ k. bytes_eq w.now k.now) ks then ks else ks ++ w ∷ []) → Adds (shown ks) w.now (slot_in (shown ks) w.now) added (shown new)
adds_shown w ks new added a n = by (list_any (λ k. bytes_eq w.now k.now) ks) refl a n
  where
    by : (b : Bool) → list_any (λ k. bytes_eq w.now k.now) ks ≡ b → added ≡ not b → new ≡ (if b then ks else ks ++ w ∷ [])
        → Adds (shown ks) w.now (slot_in (shown ks) w.now) added (shown new)
    by true q r s = subst (λ (o : Option ℕ). Adds (shown ks) w.now o added (shown new)) (sym (ap (λ (b : Bool). cond b (Some (prefix_len (λ n. not (bytes_eq w.now n)) (shown ks))) None) (any_place (λ n. bytes_eq w.now n) ks ∙ q))) (r, ap shown s)
    by false q r s = subst (λ (o : Option ℕ). Adds (shown ks) w.now o added (shown new)) (sym (ap (λ (b : Bool). cond b (Some (prefix_len (λ n. not (bytes_eq w.now n)) (shown ks))) None) (any_place (λ n. bytes_eq w.now n) ks ∙ q))) (r, ap shown s ∙ shown_push ks w)

-- what was added stands last
pub adds_keeps : (old : List (List ℕ)) (name : List ℕ) (slot : Option ℕ) (added : Bool) (new : List (List ℕ)) → Adds old name slot added new → Keeps old new
adds_keeps old name None added new a = (name ∷ [], a.1)
adds_keeps old name (Some slot) added new a = ([], a.1 ∙ sym (append-nil old))

pub keeps_same : (old new : List (List ℕ)) → new ≡ old → Keeps old new
keeps_same old new e = ([], e ∙ sym (append-nil old))

pub keeps_more : (old mid new : List (List ℕ)) → Keeps old mid → Keeps mid new → Keeps old new
keeps_more old mid new (more, e) (rest, f) = (more ++ rest, f ∙ ap (λ (x : List (List ℕ)). x ++ rest) e ∙ append_assoc old more rest)

-- ---- lexemes

missed : (kind : TokenKind) (note : Bool) (text : List ℕ) (t : Lexeme) (ts : List Lexeme) → expected kind note text (t ∷ ts) ≡ None → is_token kind note text t ≡ false
missed kind note text t ts h = by (is_token kind note text t) refl h
  where
    by : (b : Bool) → is_token kind note text t ≡ b → (let o : Option (ℕ × List Lexeme) = if b then Some (t.span.from, ts) else None in o) ≡ None → is_token kind note text t ≡ false
    by true e q = absurd (cc)
    by false e q = e

pub static_here : (ts : List Lexeme) (d : Lexeme) → 1 ≤ length ts → is_token Word false (codes "static") (get_or ts 0 d) ≡ true → ts ≡ from_static ts
static_here [] d h e = absurd (omega arith)
static_here (t ∷ ts) d h e = rw e refl

pub static_later : (ts : List Lexeme) (d : Lexeme) → 1 ≤ length ts → is_token Word false (codes "static") (get_or ts 0 d) ≡ false → from_static ts ≡ from_static (take (length ts - 1) (drop 1 ts))
static_later [] d h e = absurd (omega arith)
static_later (t ∷ ts) d h e = rw e (ap from_static (sym (rest_of t ts)))
  where
    rest_of : (t : Lexeme) (ts : List Lexeme) → take (length (t ∷ ts) - 1) (drop 1 (t ∷ ts)) ≡ ts
    rest_of t ts = ap (λ (n : ℕ). take n ts) (omega arith) ∙ take-length ts

pub static_nowhere : (ts : List Lexeme) → length ts < 1 → ts ≡ from_static ts
static_nowhere [] h = refl
static_nowhere (t ∷ ts) h = absurd (omega arith)

pub operator_none : (note : Bool) (ts : List Lexeme) → expected Sign note (codes "+") ts ≡ None → expected Sign note (codes "-") ts ≡ None → operator_in note ts ≡ (None, ts)
operator_none note [] p m = refl
operator_none note (t ∷ ts) p m = rw (missed Sign note (codes "+") t ts p, missed Sign note (codes "-") t ts m) refl

pub operator_kept : (note : Bool) (a b d : List Lexeme) → expected Sign note (codes "+") a ≡ None → expected Sign note (codes "-") b ≡ None → b ≡ a → d ≡ b
    → operator_in note a ≡ (None, d)
operator_kept note a b d p m e f =
    subst (λ (x : List Lexeme). operator_in note a ≡ (None, x)) (sym (f ∙ e))
    (operator_none note a p (subst (λ (x : List Lexeme). expected Sign note (codes "-") x ≡ None) e m))
