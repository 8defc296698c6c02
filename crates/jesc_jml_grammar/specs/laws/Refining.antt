-- Laws of parsers: an answer depends on the lexemes up to the one behind those taken, and on none after it.
use Rattle.std.proofs.Common.{◌≡◌, ℕ, Bool, true, false, List, [], ◌∷◌, ◌++◌, length, Ok, Err, refl, sym, ap, ◌∙◌, append_assoc, inl, inr}
use Rattle.std.specs.Prelude.{◌⊎◌, if◌then◌else◌}
use Rattle.jesc_ast.specs.Lexemes.{Lexeme}
use Rattle.jesc_jml_grammar.specs.declared.mark.Mark.{Mark}
use Rattle.jesc_jml_grammar.specs.declared.fault.Fault.{Fault}
use Rattle.jesc_jml_grammar.specs.declared.fault.Fault.TheVariants.{Unexpected, Deep}
use Rattle.jesc_jml_grammar.specs.Steps.{Outcome, Parser, and_then, ◌>>=◌, pure, refuse, too_deep, too_long, head, mark_at, peek, take_one, same_mark, expect, is_name_again, peek_again}

-- ---- how a chain came to its answer

pub bind_ok : {A B : Type 0} (r : Outcome A) (f : A → Parser B) (y : B) (rest : List Lexeme) → and_then r f ≡ Ok (y, rest)
    → (x : A) × (mid : List Lexeme) × (r ≡ Ok (x, mid)) × (f x mid ≡ Ok (y, rest))
bind_ok (Ok p) f y rest e = (p.0, p.1, refl, e)
bind_ok (Err d) f y rest e = absurd cc

pub bind_err : {A B : Type 0} (r : Outcome A) (f : A → Parser B) (d : Fault) → and_then r f ≡ Err d
    → (r ≡ Err d) ⊎ ((x : A) × (mid : List Lexeme) × (r ≡ Ok (x, mid)) × (f x mid ≡ Err d))
bind_err (Ok p) f d e = inr (p.0, p.1, refl, e)
bind_err (Err c) f d e = inl cc

abbrev done : {A : Type 0} → A → List Lexeme → Outcome A
done x rest = Ok (x, rest)

done_is : {A : Type 0} (p q : A × List Lexeme) → done p.0 p.1 ≡ done q.0 q.1 → p ≡ q
done_is p q e = cc

pub ok_is : {A : Type 0} (x y : A) (rest more : List Lexeme) → done x rest ≡ done y more → (x ≡ y) × (rest ≡ more)
ok_is {A} x y rest more e =
    let pairs = done_is {A = A} (x, rest) (y, more) e in
    (ap (λ (p : A × List Lexeme). p.0) pairs, ap (λ (p : A × List Lexeme). p.1) pairs)

-- ---- the lexeme that comes next

pub head_after : (u v w : List Lexeme) → head w ≡ head v → head (u ++ w) ≡ head (u ++ v)
head_after [] v w e = e
head_after (x ∷ u) v w e = refl

pub mark_at-head : (note : Bool) (v w : List Lexeme) → head w ≡ head v → mark_at note w ≡ mark_at note v
unfolding mark_at
mark_at-head note [] [] e = refl
mark_at-head note [] (x ∷ w) e = absurd cc
mark_at-head note (x ∷ v) [] e = absurd cc
mark_at-head note (x ∷ v) (y ∷ w) e = let same : y ≡ x = cc in rw same refl

pub is_name_again-head : (note : Bool) (text : List ℕ) (v w : List Lexeme) → head w ≡ head v → is_name_again note text w ≡ is_name_again note text v
is_name_again-head note text [] [] e = refl
is_name_again-head note text [] (x ∷ w) e = absurd cc
is_name_again-head note text (x ∷ v) [] e = absurd cc
is_name_again-head note text (x ∷ v) (y ∷ w) e = let same : y ≡ x = cc in rw same refl

-- ---- the same answers, with other lexemes behind the next

pub record Answers {A : Type 0} (q : Parser A) (ts : List Lexeme) (x : A) (rest : List Lexeme) : Type 0 where
  pub taken : List Lexeme
  pub parts : ts ≡ taken ++ rest
  pub again : (other : List Lexeme) → head other ≡ head rest → q (taken ++ other) ≡ Ok (x, other)

-- stops with this fault, told by how many lexemes are left
pub record Stops {A : Type 0} (fault : ℕ → Fault) (q : Parser A) (ts : List Lexeme) (n : ℕ) : Type 0 where
  pub taken : List Lexeme
  pub rest : List Lexeme
  pub parts : ts ≡ taken ++ rest
  pub left : n ≡ length rest
  pub again : (other : List Lexeme) → head other ≡ head rest → q (taken ++ other) ≡ Err (fault (length other))

-- Where p answers, or comes to a lexeme that it does not expect, q does the same. With `same` they have the same room,
-- and what is too deep for p is so for q.
pub record Refines {A : Type 0} (same : Bool) (p q : Parser A) : Type 0 where
  pub oks : (ts rest : List Lexeme) (x : A) → p ts ≡ Ok (x, rest) → Answers q ts x rest
  pub errs : (ts : List Lexeme) (n : ℕ) → p ts ≡ Err (Unexpected n) → Stops Unexpected q ts n
  pub deeps : same ≡ true → (ts : List Lexeme) (n : ℕ) → p ts ≡ Err (Deep n) → Stops Deep q ts n

module _ (same : Bool) where
  pub refines_pure : {A : Type 0} (a : A) → Refines same (pure a) (pure a)
  refines_pure {A} a = record {
    oks = λ ts rest x e. let is = ok_is a x ts rest e in record { taken = []; parts = is.1; again = λ other next. ap (λ (z : A). Ok (z, other)) is.0 };
    errs = λ ts n e. absurd cc;
    deeps = λ s ts n e. absurd cc;
  }

  pub refines_refuse : {A : Type 0} → Refines {A = A} same refuse refuse
  refines_refuse {A} = record {
    oks = λ ts rest x e. absurd cc;
    errs = λ ts n e. record { taken = []; rest = ts; parts = refl; left = cc; again = λ other next. refl };
    deeps = λ s ts n e. absurd cc;
  }

  pub refines_deep : {A : Type 0} → Refines {A = A} same too_deep too_deep
  refines_deep {A} = record {
    oks = λ ts rest x e. absurd cc;
    errs = λ ts n e. absurd cc;
    deeps = λ s ts n e. record { taken = []; rest = ts; parts = refl; left = cc; again = λ other next. refl };
  }

  pub refines_peek : (note : Bool) → Refines same (peek note) (peek note)
  refines_peek note = record {
    oks = λ ts rest x e.
        let is = ok_is (mark_at note ts) x ts rest e in
        record { taken = []; parts = is.1; again = λ other next. ap (λ (z : Mark). Ok (z, other)) (mark_at-head note ts other (next ∙ ap head (sym is.1)) ∙ is.0) };
    errs = λ ts n e. absurd cc;
    deeps = λ s ts n e. absurd cc;
  }

  pub refines_peek_again : (note : Bool) (text : List ℕ) → Refines same (peek_again note text) (peek_again note text)
  refines_peek_again note text = record {
    oks = λ ts rest x e.
        let is = ok_is (is_name_again note text ts) x ts rest e in
        record { taken = []; parts = is.1; again = λ other next. ap (λ (z : Bool). Ok (z, other)) (is_name_again-head note text ts other (next ∙ ap head (sym is.1)) ∙ is.0) };
    errs = λ ts n e. absurd cc;
    deeps = λ s ts n e. absurd cc;
  }

  take_one-oks : (ts rest : List Lexeme) (x : Lexeme) → take_one ts ≡ Ok (x, rest) → Answers take_one ts x rest
  unfolding take_one
  take_one-oks [] rest x e = absurd cc
  take_one-oks (t ∷ ts) rest x e =
      let is = ok_is t x ts rest e in
      record { taken = t ∷ []; parts = ap (λ (z : List Lexeme). t ∷ z) is.1; again = λ other next. ap (λ (z : Lexeme). Ok (z, other)) is.0 }

  take_one-errs : (ts : List Lexeme) (n : ℕ) → take_one ts ≡ Err (Unexpected n) → Stops Unexpected take_one ts n
  unfolding take_one
  take_one-errs [] n e = record { taken = []; rest = []; parts = refl; left = cc; again = elim [ [] ↦ λ next. refl | t ∷ other ↦ λ next. absurd cc ] }
  take_one-errs (t ∷ ts) n e = absurd cc

  take_one-deeps : (ts : List Lexeme) (n : ℕ) → take_one ts ≡ Err (Deep n) → Stops Deep take_one ts n
  unfolding take_one
  take_one-deeps [] n e = absurd cc
  take_one-deeps (t ∷ ts) n e = absurd cc

  pub refines_take_one : Refines same take_one take_one
  refines_take_one = record { oks = take_one-oks; errs = take_one-errs; deeps = λ s. take_one-deeps }

  module _ {A B : Type 0} (p q : Parser A) (f g : A → Parser B) (hp : Refines same p q) (hf : (x : A) → Refines same (f x) (g x)) where
    bind_stops : (fault : ℕ → Fault) → ((ts : List Lexeme) (n : ℕ) → p ts ≡ Err (fault n) → Stops fault q ts n)
        → ((x : A) (ts : List Lexeme) (n : ℕ) → f x ts ≡ Err (fault n) → Stops fault (g x) ts n)
        → (ts : List Lexeme) (n : ℕ) → and_then (p ts) f ≡ Err (fault n) → Stops fault (q >>= g) ts n
    bind_stops fault first second ts n e =
        elim (bind_err (p ts) f (fault n) e) [
          | inl stopped ↦
              let P = first ts n stopped in
              record { taken = P.taken; rest = P.rest; parts = P.parts; left = P.left; again = λ other next. ap (λ (z : Outcome A). and_then z g) (P.again other next) }
          | inr b ↦
              let P = hp.oks ts b.1 b.0 b.2 in
              let Q = second b.0 b.1 n b.3 in
              record {
                taken = P.taken ++ Q.taken;
                rest = Q.rest;
                parts = P.parts ∙ ap (λ (z : List Lexeme). P.taken ++ z) Q.parts ∙ sym (append_assoc P.taken Q.taken Q.rest);
                left = Q.left;
                again = λ other next.
                    let before : q (P.taken ++ (Q.taken ++ other)) ≡ Ok (b.0, Q.taken ++ other) =
                    P.again (Q.taken ++ other) (head_after Q.taken Q.rest other next ∙ ap head (sym Q.parts)) in
                    rw append_assoc (rw before (Q.again other next));
              }
        ]

    pub refines_bind : Refines same (p >>= f) (q >>= g)
    refines_bind = record {
      oks = λ ts rest y e.
          let b = bind_ok (p ts) f y rest e in
          let P = hp.oks ts b.1 b.0 b.2 in
          let Q = (hf b.0).oks b.1 rest y b.3 in
          record {
            taken = P.taken ++ Q.taken;
            parts = P.parts ∙ ap (λ (z : List Lexeme). P.taken ++ z) Q.parts ∙ sym (append_assoc P.taken Q.taken rest);
            again = λ other next.
                let before : q (P.taken ++ (Q.taken ++ other)) ≡ Ok (b.0, Q.taken ++ other) =
                P.again (Q.taken ++ other) (head_after Q.taken rest other next ∙ ap head (sym Q.parts)) in
                rw append_assoc (rw before (Q.again other next));
          };
      errs = bind_stops Unexpected hp.errs (λ x. (hf x).errs);
      deeps = λ s. bind_stops Deep (hp.deeps s) (λ x. (hf x).deeps s);
    }

  pub refines_if : {A : Type 0} (b : Bool) (p q p' q' : Parser A) → Refines same p q → Refines same p' q' → Refines same (if b then p else p') (if b then q else q')
  refines_if true p q p' q' h h' = h
  refines_if false p q p' q' h h' = h'

  pub refines_expect : (note : Bool) (mark : Mark) → Refines same (expect note mark) (expect note mark)
  unfolding expect
  refines_expect note mark = refines_bind (peek note) (peek note) _ _ (refines_peek note)
      (λ found. refines_if (same_mark found mark) take_one take_one refuse refuse refines_take_one refines_refuse)

-- whatever the other parser is, where they need not have the same room
pub refines_unbounded : (same : Bool) {A : Type 0} (q : Parser A) → (same ≡ true → ⊥) → Refines same too_deep q
refines_unbounded same q other = record { oks = λ ts rest x e. absurd cc; errs = λ ts n e. absurd cc; deeps = λ s ts n e. absurd (other s) }

-- whatever the other parser is, where the turns are at an end
pub refines_long : (same : Bool) {A : Type 0} (q : Parser A) → Refines same too_long q
refines_long same q = record { oks = λ ts rest x e. absurd cc; errs = λ ts n e. absurd cc; deeps = λ s ts n e. absurd cc }
