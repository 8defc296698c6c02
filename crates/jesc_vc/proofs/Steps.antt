-- Each simple step: the facts that it adds, and that they say what it does.
use Rattle.std.proofs.Common.{◌≡◌, ℕ, suc, ◌<◌, ◌≤◌, Bool, List, [], ◌∷◌, ◌++◌, refl, ap, ◌∙◌, subst, append_assoc}
use Rattle.std.specs.Prelude.{ℤ}
use Rattle.jesc_logic.specs.Structures.{Structure}
use Rattle.jesc_core.specs.Trees.{TermTree, FormulaTree, FrameTree}
use Rattle.jesc_core.specs.Fields.{fields_of_term, fields_of_formula, fields_of_frame}
use Rattle.jesc_core.specs.Proper.{IsProperTerm, IsProperFormula, IsProperFrame}
use Rattle.jesc_core.specs.Heaps.{Reading, State, with_variable, with_heap, with_kept, with_field, with_element, with_built, with_object, chosen_heap, next_choice}
use Rattle.jesc_core.specs.Runs.{StaysInFrame, HasObject}
use Rattle.jesc_core.specs.Values as core
use Rattle.jesc_vc.specs.Facts.{FactTree, AreMet, AreShort}
use Rattle.jesc_vc.specs.Encodings.{encode_term, claim_formula}
use Rattle.jesc_vc.specs.Moves.{Known, ground, assumed, assigned, kept_so, written, element_written, built_so, object_made, havocked, marks_framed}
use Rattle.jesc_vc.proofs.Below.{met_front}
use Rattle.jesc_vc.proofs.Encoded.{short_front, short_back}
use Rattle.jesc_vc.proofs.Moving.{Moves, Always, IsKnown, assumed_moves, assigned_moves, kept_moves}
use Rattle.jesc_vc.proofs.Composing.{written_moves, built_moves, element_moves}
use Rattle.jesc_vc.proofs.Objects.{object_moves, fields_cleared_more}
use Rattle.jesc_vc.proofs.Framing.{havoc_moves, fields_framed_more}

-- the first facts are the front of the others
abbrev pub Begins : List FactTree → List FactTree → Type 0
Begins fs gs = (more : List FactTree) × (gs ≡ fs ++ more)

append_nil : (fs : List FactTree) → fs ≡ fs ++ []
append_nil [] = refl
append_nil (g ∷ fs) = ap (λ gs. g ∷ gs) (append_nil fs)

pub begins_self : (fs : List FactTree) → Begins fs fs
begins_self fs = ([], append_nil fs)

pub begins_then : (fs gs hs : List FactTree) → Begins fs gs → Begins gs hs → Begins fs hs
begins_then fs gs hs a b = (a.0 ++ b.0, b.1 ∙ ap (λ xs. xs ++ b.0) a.1 ∙ append_assoc fs a.0 b.0)

pub begins_more : (fs gs : List FactTree) → Begins fs (fs ++ gs)
begins_more fs gs = (gs, refl)

pub short_begin : (fs gs : List FactTree) → Begins fs gs → AreShort gs → AreShort fs
short_begin fs gs b h = short_front fs b.0 (subst AreShort b.1 h)

pub met_begin : (s : Structure) (fs gs : List FactTree) → Begins fs gs → AreMet s gs → AreMet s fs
met_begin s fs gs b h = met_front s fs b.0 (subst (AreMet s) b.1 h)

module _ (reading : Reading) (fields : ℕ) (few_fields : fields ≤ 2147483584) where
  -- a step from what is known: it adds facts, and goes on from states where `Before` holds to another state
  pub record IsStep (k j : Known) (Before : State → Type 0) (after : State → State) : Type 0 where
    pub begins : Begins k.facts j.facts
    pub moves : AreShort j.facts → IsKnown reading fields k → Moves reading fields k j Before after

  pub assumed_step : (f : FormulaTree) (truth : Bool) (k : Known) → IsProperFormula f → fields_of_formula f ≤ fields → IsStep k (assumed f truth k) (λ y. core.is_true reading f y ≡ truth) (λ y. y)
  assumed_step f truth k fine few =
      let m = claim_formula f truth k.env ground k.next in
      record { begins = begins_more k.facts m.facts; moves = λ short b. assumed_moves reading fields k b f truth fine few (short_back k.facts m.facts short) }

  pub assigned_step : (x : ℕ) (t : TermTree) (k : Known) → IsProperTerm t → fields_of_term t ≤ fields → IsStep k (assigned x t k) (Always reading fields) (λ y. with_variable y x (core.value reading t y))
  assigned_step x t k fine few =
      let m = encode_term t k.env ground k.next in
      record { begins = begins_more k.facts m.facts; moves = λ short b. assigned_moves reading fields k b x t fine few (short_back k.facts m.facts short) }

  pub kept_step : (n : ℕ) (k : Known) → IsStep k (kept_so n k) (Always reading fields) (λ y. with_kept y n)
  kept_step n k = record { begins = begins_self k.facts; moves = λ short b. kept_moves reading fields k b n }

  pub written_step : (f : ℕ) (object v : TermTree) (k : Known) → f < fields → IsProperTerm object → fields_of_term object ≤ fields → IsProperTerm v → fields_of_term v ≤ fields
      → IsStep k (written f object v k) (Always reading fields) (λ y. with_heap y (with_field y.heap f (core.value reading object y) (core.value reading v y)))
  written_step f object v k lt fine few fine' few' =
      let m = encode_term object k.env ground k.next in
      let n = encode_term v k.env ground m.next in
      record {
        begins = begins_then k.facts (k.facts ++ m.facts) _ (begins_more k.facts m.facts) (begins_then (k.facts ++ m.facts) (k.facts ++ m.facts ++ n.facts) _ (begins_more (k.facts ++ m.facts) n.facts) (begins_more (k.facts ++ m.facts ++ n.facts) _));
        moves = λ short b. written_moves reading fields k b f object v lt fine few fine' few' short;
      }

  pub element_step : (array index v : TermTree) (k : Known) → IsProperTerm array → fields_of_term array ≤ fields → IsProperTerm index → fields_of_term index ≤ fields → IsProperTerm v → fields_of_term v ≤ fields
      → IsStep k (element_written array index v k) (Always reading fields) (λ y. with_heap y (with_element y.heap (core.value reading array y) (core.value reading index y) (core.value reading v y)))
  element_step array index v k fa wa fi wi fv wv =
      let a = encode_term array k.env ground k.next in
      let i = encode_term index k.env ground a.next in
      let n = encode_term v k.env ground i.next in
      record {
        begins = begins_then k.facts (k.facts ++ a.facts) _ (begins_more k.facts a.facts) (begins_then (k.facts ++ a.facts) (k.facts ++ a.facts ++ i.facts) _ (begins_more (k.facts ++ a.facts) i.facts)
            (begins_then (k.facts ++ a.facts ++ i.facts) (k.facts ++ a.facts ++ i.facts ++ n.facts) _ (begins_more (k.facts ++ a.facts ++ i.facts) n.facts) (begins_more (k.facts ++ a.facts ++ i.facts ++ n.facts) _)));
        moves = λ short b. element_moves reading fields k b array index v fa wa fi wi fv wv short;
      }

  pub built_step : (object : TermTree) (k : Known) → IsProperTerm object → fields_of_term object ≤ fields → IsStep k (built_so object k) (Always reading fields) (λ y. with_heap y (with_built y.heap (core.value reading object y)))
  built_step object k fine few =
      let m = encode_term object k.env ground k.next in
      record {
        begins = begins_then k.facts (k.facts ++ m.facts) _ (begins_more k.facts m.facts) (begins_more (k.facts ++ m.facts) _);
        moves = λ short b. built_moves reading fields k b object fine few short;
      }

  pub object_step : (x : ℕ) (ty : ℤ) (size : TermTree) (k : Known) → IsProperTerm size → fields_of_term size ≤ fields
      → IsStep k (object_made fields x ty size k) (λ y. let h = y.heap in HasObject reading h.top ty (core.value reading size y)) (λ y. let h = y.heap in with_variable (with_heap y (with_object h ty)) x h.top)
  object_step x ty size k fine few =
      let m = encode_term size k.env ground k.next in
      record {
        begins = begins_then k.facts (k.facts ++ m.facts) _ (begins_more k.facts m.facts)
            (begins_then (k.facts ++ m.facts) _ _ (begins_more (k.facts ++ m.facts) _) (begins_then _ _ _ (begins_more _ _) (begins_then _ _ _ (begins_more _ _) (fields_cleared_more fields 0 _ _))));
        moves = λ short b. object_moves reading fields k b x ty size fine few short;
      }

  pub havoc_step : (x : ℕ) (frame : FrameTree) (k : Known) → IsProperFrame frame → fields_of_frame frame ≤ fields
      → IsStep k (havocked fields x frame k) (λ y. StaysInFrame reading frame y (chosen_heap reading fields (suc y.choice))) (next_choice reading fields x)
  havoc_step x frame k fine few =
      let k1 = marks_framed k in
      record {
        begins = begins_then k.facts k1.facts _ (begins_more k.facts _) (begins_then k1.facts _ _ (fields_framed_more fields 0 frame k1) (begins_more _ _));
        moves = λ short b. havoc_moves reading fields few_fields k b x frame fine few short;
      }
