-- A rule that is read again and again, beside a loop that keeps what it has read so far.
use Rattle.std.proofs.Common.{◌≡◌, ℕ, ◌<◌, ◌≤◌, Bool, true, List, [], ◌∷◌, ◌++◌, length, suc, zero, Option, Some, None, refl, sym, ap, ◌∙◌, subst, arith, append_assoc, Result, Ok, Err}
use Rattle.jesc_ast.specs.Lexemes.{Lexeme}
use Rattle.jesc_first.specs.Parsing.{Parsed, Texts, Turn, many, repeated, stateless, and_then, list_read}
use Rattle.std.specs.Result.{IsErrAnd}
use Rattle.jesc_first.specs.Reads.{in_front, Reads, ReadsWith, Taken}
use Rattle.jesc_first.specs.declared.reader.cursor.Stop.{Stop}
use Rattle.jesc_first.specs.declared.reader.cursor.Stop.TheVariants.{Refused, Memory}

-- what was read so far, before what is read of the rest
abbrev pub prepended : {S A : Type 0} → List A → Parsed (List A × S) → Parsed (List A × S)
prepended sofar None = None
prepended sofar (Some read) = Some ((sofar ++ read.0.0, read.0.1), read.1)

-- The whole is what was read so far, and then what the rule reads of the rest, in more turns than that has tokens.
pub record Left {S A : Type 0} (turn : Turn S A) (whole : Parsed (List A × S)) (sofar : List A) (s : S) (rest : List Lexeme) : Type 0 where
  pub fuel : ℕ
  pub enough : length rest ≤ fuel
  pub same : whole ≡ prepended sofar (many turn (suc fuel) s rest)

nothing_before : {S A : Type 0} (read : Parsed (List A × S)) → read ≡ prepended [] read
nothing_before None = refl
nothing_before (Some read) = refl

pub left_start : {S A : Type 0} (turn : Turn S A) (s : S) (tokens : List Lexeme) → Left turn (repeated turn s tokens) [] s tokens
left_start turn s tokens = record { fuel = length tokens; enough = omega arith; same = nothing_before (many turn (suc (length tokens)) s tokens) }

one_before : {S A : Type 0} (x : A) (read : Parsed (List A × S)) → in_front x read ≡ prepended (x ∷ []) read
one_before x None = refl
one_before x (Some read) = refl

pub left_start_behind : {S A : Type 0} (turn : Turn S A) (x : A) (s : S) (tokens : List Lexeme) → Left turn (in_front x (repeated turn s tokens)) (x ∷ []) s tokens
left_start_behind turn x s tokens = record { fuel = length tokens; enough = omega arith; same = one_before x (many turn (suc (length tokens)) s tokens) }

further : {S A : Type 0} (sofar : List A) (x : A) (more : Parsed (List A × S))
    → prepended sofar (and_then more (λ xs end. Some ((x ∷ xs.0, xs.1), end))) ≡ prepended (sofar ++ x ∷ []) more
further sofar x None = refl
further sofar x (Some read) = ap (λ xs. Some ((xs, read.0.1), read.1)) (sym (append_assoc sofar (x ∷ []) read.0.0))

step_some : {S A : Type 0} (turn : Turn S A) (sofar : List A) (s : S) (rest : List Lexeme) (x : A) (t : S) (new : List Lexeme) (f : ℕ) → turn s rest ≡ Some ((Some x, t), new)
    → prepended sofar (many turn (suc f) s rest) ≡ prepended sofar (and_then (many turn f t new) (λ xs end. Some ((x ∷ xs.0, xs.1), end)))
unfolding many
step_some turn sofar s rest x t new f found = rw found refl

step_none : {S A : Type 0} (turn : Turn S A) (sofar : List A) (s : S) (rest : List Lexeme) (f : ℕ) → turn s rest ≡ None → prepended sofar (many turn (suc f) s rest) ≡ None
unfolding many
step_none turn sofar s rest f none = rw none refl

step_end : {S A : Type 0} (turn : Turn S A) (sofar : List A) (s : S) (rest : List Lexeme) (t : S) (new : List Lexeme) (f : ℕ) → turn s rest ≡ Some ((None, t), new)
    → prepended sofar (many turn (suc f) s rest) ≡ Some ((sofar ++ [], t), new)
unfolding many
step_end turn sofar s rest t new f none = rw none refl

module _ {S A : Type 0} (turn : Turn S A) (whole : Parsed (List A × S)) (sofar : List A) (s : S) (rest : List Lexeme) where
  pub left_more : Left turn whole sofar s rest → (x : A) (t : S) (new : List Lexeme) → turn s rest ≡ Some ((Some x, t), new) → length new < length rest
      → Left turn whole (sofar ++ x ∷ []) t new
  left_more h x t new found shorter = by h.fuel h.enough h.same
    where
      by : (fuel : ℕ) → length rest ≤ fuel → whole ≡ prepended sofar (many turn (suc fuel) s rest) → Left turn whole (sofar ++ x ∷ []) t new
      by zero enough same = absurd (omega arith)
      by (suc fuel) enough same = record { fuel = fuel; enough = omega arith; same = same ∙ step_some turn sofar s rest x t new (suc fuel) found ∙ further sofar x (many turn (suc fuel) t new) }

  pub left_none : Left turn whole sofar s rest → turn s rest ≡ None → whole ≡ None
  left_none h none = h.same ∙ step_none turn sofar s rest h.fuel none

  pub left_end : Left turn whole sofar s rest → (t : S) (new : List Lexeme) → turn s rest ≡ Some ((None, t), new) → whole ≡ Some ((sofar, t), new)
  left_end h t new none = h.same ∙ step_end turn sofar s rest t new h.fuel none ∙ ap (λ xs. Some ((xs, t), new)) (nil sofar)
    where
      nil : (xs : List A) → xs ++ [] ≡ xs
      nil [] = refl
      nil (x ∷ xs) = ap (λ (ys : List A). x ∷ ys) (nil xs)

-- ---- as the loops have it

stops_with : {A : Type 0} (stop : Stop) (out : Result A Stop) → IsErrAnd out (λ s. s ≡ stop) → out ≡ Err stop
stops_with stop (Ok x) q = absurd q
stops_with stop (Err s) q = ap (λ (t : Stop). Err t) q

module _ {S A : Type 0} (turn : Turn S A) (whole : Parsed (List A × S)) (sofar : List A) (s : S) (rest : List Lexeme) (h : Left turn whole sofar s rest) where
  pub turn_more : (found : Option A) (x : A) (t : S) (new : List Lexeme) (more : List A) → found ≡ Some x → turn s rest ≡ Some ((found, t), new) → Taken found rest new → more ≡ sofar ++ x ∷ []
      → Left turn whole more t new × (length new < length rest)
  turn_more found x t new more is reads taken grown =
      let shorter : length new < length rest = subst (λ (f : Option A). Taken f rest new) is taken in
      let there : turn s rest ≡ Some ((Some x, t), new) = subst (λ (f : Option A). turn s rest ≡ Some ((f, t), new)) is reads in
      (subst (λ (xs : List A). Left turn whole xs t new) (sym grown) (left_more turn whole sofar s rest h x t new there shorter), shorter)

  pub turn_end : (found : Option A) (t : S) (new : List Lexeme) → found ≡ None → turn s rest ≡ Some ((found, t), new) → whole ≡ Some ((sofar, t), new)
  turn_end found t new is reads =
      let there : turn s rest ≡ Some ((None, t), new) = subst (λ (f : Option A). turn s rest ≡ Some ((f, t), new)) is reads in
      left_end turn whole sofar s rest h t new there

module _ {A : Type 0} (turn : Turn Texts A) (whole : Parsed (List A × Texts)) (sofar : List A) (s : Texts) (rest : List Lexeme) (h : Left turn whole sofar s rest) where
  pub turn_stops : (stop : Stop) (out : Result (List A) Stop) (names : Texts) (new : List Lexeme) → ReadsWith {A = Option A} (turn s rest) (Err stop) names new → IsErrAnd out (λ s. s ≡ stop) → ReadsWith whole out names new
  turn_stops Refused out names new r q = let e = stops_with Refused out q in subst (λ (o : Result (List A) Stop). ReadsWith whole o names new) (sym e) (left_none turn whole sofar s rest h r)
  turn_stops Memory out names new r q = let e = stops_with Memory out q in subst (λ (o : Result (List A) Stop). ReadsWith whole o names new) (sym e) tt

  pub turn_stops_alone : (stop : Stop) (out : Result (List A) Stop) (names : Texts) (new : List Lexeme) → ReadsWith {A = Option A} (turn s rest) (Err stop) names new → IsErrAnd out (λ s. s ≡ stop) → Reads (list_read whole) out new
  turn_stops_alone Refused out names new r q = let e = stops_with Refused out q in subst (λ (o : Result (List A) Stop). Reads (list_read whole) o new) (sym e) (ap list_read (left_none turn whole sofar s rest h r))
  turn_stops_alone Memory out names new r q = let e = stops_with Memory out q in subst (λ (o : Result (List A) Stop). Reads (list_read whole) o new) (sym e) tt

module _ {A : Type 0} (rule : List Lexeme → Parsed (Option A)) (whole : Parsed (List A × Bool)) (sofar : List A) (rest : List Lexeme) (h : Left (stateless rule) whole sofar true rest) where
  kept : (found : Option A) (new : List Lexeme) → rule rest ≡ Some (found, new) → stateless rule true rest ≡ Some ((found, true), new)
  kept found new reads = ap (λ (p : Parsed (Option A)). and_then p (λ f r. Some ((f, true), r))) reads

  pub found_more : (found : Option A) (x : A) (new : List Lexeme) (more : List A) → found ≡ Some x → rule rest ≡ Some (found, new) → Taken found rest new → more ≡ sofar ++ x ∷ []
      → Left (stateless rule) whole more true new × (length new < length rest)
  found_more found x new more is reads taken grown = turn_more (stateless rule) whole sofar true rest h found x true new more is (kept found new reads) taken grown

  pub found_end : (found : Option A) (new : List Lexeme) → found ≡ None → rule rest ≡ Some (found, new) → list_read whole ≡ Some (sofar, new)
  found_end found new is reads = ap list_read (turn_end (stateless rule) whole sofar true rest h found true new is (kept found new reads))

  pub found_stops : (stop : Stop) (out : Result (List A) Stop) (new : List Lexeme) → Reads {A = Option A} (rule rest) (Err stop) new → IsErrAnd out (λ s. s ≡ stop) → Reads (list_read whole) out new
  found_stops Refused out new r q = let e = stops_with Refused out q in subst (λ (o : Result (List A) Stop). Reads (list_read whole) o new) (sym e)
      (ap list_read (left_none (stateless rule) whole sofar true rest h (ap (λ (p : Parsed (Option A)). and_then p (λ f t. Some ((f, true), t))) r)))
  found_stops Memory out new r q = let e = stops_with Memory out q in subst (λ (o : Result (List A) Stop). Reads (list_read whole) o new) (sym e) tt
