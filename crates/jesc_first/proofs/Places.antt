-- The place at which the recognizer stops, and what it shows.
use Rattle.std.proofs.Common.{◌≡◌, Bool, true, false, List, [], ◌∷◌, ◌++◌, refl, sym, ap, ◌∙◌, subst, append_assoc, Option, Some, None, inl, inr}
use Rattle.jesc_ast.specs.Lexemes.{Lexeme}
use Rattle.jesc_first.specs.Parsing.{Texts}
use Rattle.jesc_first.specs.Recognizing.{State, start, step, run_on, run}
use Rattle.jesc_first.specs.Recognized.{Steps}
use Rattle.jesc_first.specs.Outside.{IsForeign}
use Rattle.jesc_first.specs.Fronts.{IsForeignPlace, IsReached, Stops, IsPlace}

-- one run after another
pub run_append : (s : Option State) (us vs : List Lexeme) → run_on s (us ++ vs) ≡ run_on (run_on s us) vs
run_append None us vs = refl
run_append (Some s) [] vs = refl
run_append (Some s) (u ∷ us) vs = run_append (step s u) us vs

pub reached_first : (before : Texts) (ts place : List Lexeme) (s : State) → place ≡ ts → s ≡ start before → IsReached before ts place s
reached_first before ts place s e f = record { front = []; split = sym e; ran = ap (λ (x : State). Some x) (sym f) }

run_one : (s : State) (x : Lexeme) → run_on (Some s) (x ∷ []) ≡ step s x
run_one s x = by (step s x)
  where
    by : (o : Option State) → run_on o [] ≡ o
    by None = refl
    by (Some t) = refl

ran_on : (before : Texts) (front : List Lexeme) (s : State) (x : Lexeme) → run (start before) front ≡ Some s → run (start before) (front ++ x ∷ []) ≡ step s x
ran_on before front s x ran = run_append (Some (start before)) front (x ∷ []) ∙ ap (λ (o : Option State). run_on o (x ∷ [])) ran ∙ run_one s x

pub reached_more : (before : Texts) (ts place : List Lexeme) (s : State) (x : Lexeme) (rest : List Lexeme) (goes : Bool) (new : State)
    → IsReached before ts place s → place ≡ x ∷ rest → Steps (step s x) goes new → goes ≡ true → IsReached before ts rest new
reached_more before ts place s x rest true new r e steps goes = record {
  front = r.front ++ x ∷ [];
  split = r.split ∙ ap (λ (xs : List Lexeme). r.front ++ xs) e ∙ sym (append_assoc r.front (x ∷ []) rest);
  ran = ran_on before r.front s x r.ran ∙ steps;
}
reached_more before ts place s x rest false new r e steps goes = absurd (cc)

pub place_stops : (before : Texts) (ts place : List Lexeme) (s : State) (x : Lexeme) (rest : List Lexeme) (goes : Bool) (new : State)
    → IsReached before ts place s → place ≡ x ∷ rest → Steps (step s x) goes new → goes ≡ false → IsPlace before ts place
place_stops before ts place s x rest true new r e steps goes = absurd (cc)
place_stops before ts place s x rest false new r e steps goes = record {
  front = r.front;
  split = r.split;
  cause = inl (subst (Stops before r.front) (sym e) (ran_on before r.front s x r.ran ∙ steps));
}

pub place_ends : (before : Texts) (ts place : List Lexeme) (s : State) → IsReached before ts place s → place ≡ [] → IsPlace before ts place
place_ends before ts place s r e = record { front = r.front; split = r.split; cause = inl (subst (Stops before r.front) (sym e) tt) }

-- with more lexemes before it
foreign_behind : (more before behind : List Lexeme) → IsForeign before behind → IsForeign (more ++ before) behind
foreign_behind more before behind f = record {
  name = f.name;
  clauses = f.clauses;
  heading = f.heading;
  rest = f.rest;
  parts = f.parts;
  is_word = f.is_word;
  named = f.named;
  placed = record {
    front = more ++ f.placed.front;
    opener = f.placed.opener;
    inside = f.placed.inside;
    parts = ap (λ (xs : List Lexeme). more ++ xs) f.placed.parts ∙ sym (append_assoc more f.placed.front (f.placed.opener ∷ f.placed.inside));
    opens = f.placed.opens;
    scope = f.placed.scope;
    condition = f.placed.condition;
    begins = f.placed.begins;
  };
  noted = f.noted;
  result = f.result;
  method = f.method;
  parameters = f.parameters;
  matched = f.matched;
  foreign = f.foreign;
}

pub place_foreign : (before : Texts) (ts place : List Lexeme) (s : State) (foreign : List Lexeme) → IsReached before ts place s → IsForeignPlace place foreign → IsPlace before ts foreign
place_foreign before ts place s foreign r f = record {
  front = r.front ++ f.front;
  split = r.split ∙ ap (λ (xs : List Lexeme). r.front ++ xs) f.split ∙ sym (append_assoc r.front f.front foreign);
  cause = inr (foreign_behind r.front f.front foreign f.foreign);
}
