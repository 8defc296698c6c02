-- Slots of the machine that hold the worths of atoms.
use Rattle.std.proofs.Common.{◌≡◌, ℕ, zero, suc, List, [], ◌∷◌, ◌++◌, ℤ, pos, refl, ◌∙◌, ap, map, slice_get, unwrap_or}
use Rattle.jesc_first.specs.declared.tree.Part.TheVariants.{Number as Literal, Slot, Outcome}
use Rattle.jesc_first.specs.Machine.{value_in, with_slot}
use Rattle.jesc_engine.specs.declared.ways.atom.Atom.{Atom}
use Rattle.jesc_engine.specs.declared.ways.atom.Atom.TheVariants.{Number}
use Rattle.jesc_engine.specs.Rows.{worth}
use Rattle.jesc_engine.specs.Ways.{atom_in, with_atom}
use Rattle.jesc_engine.proofs.Summing.{Agrees}

-- the slot of a number, also one past the end
slot_agrees : (v : ℕ → ℤ) (atoms : List Atom) (slot : ℕ) → unwrap_or (slice_get (map (worth v) atoms) slot) (pos 0) ≡ worth v (unwrap_or (slice_get atoms slot) (Number (pos 0)))
slot_agrees v [] slot = refl
slot_agrees v (x ∷ atoms) zero = refl
slot_agrees v (x ∷ atoms) (suc slot) = slot_agrees v atoms slot

-- slots that are the worths of atoms
worths_agree : (v : ℕ → ℤ) (atoms : List Atom) (outcome : Atom) (z : ℤ) → z ≡ worth v outcome → Agrees v (atom_in atoms outcome) (value_in (map (worth v) atoms) z)
worths_agree v atoms outcome z e (Literal n) = refl
worths_agree v atoms outcome z e (Slot slot) = slot_agrees v atoms slot
worths_agree v atoms outcome z e Outcome = e

-- slots that hold the worths of the atoms agree with them
pub slots_agree : (v : ℕ → ℤ) (atoms : List Atom) (slots : List ℤ) (outcome : Atom) (z : ℤ) → slots ≡ map (worth v) atoms → z ≡ worth v outcome
    → Agrees v (atom_in atoms outcome) (value_in slots z)
slots_agree v atoms slots outcome z e o part = ap (λ s. value_in s z part) e ∙ worths_agree v atoms outcome z o part

-- one slot more
pub worths_pushed : (v : ℕ → ℤ) (atoms : List Atom) (slots : List ℤ) (x : Atom) (z : ℤ) → slots ≡ map (worth v) atoms → z ≡ worth v x
    → slots ++ z ∷ [] ≡ map (worth v) (atoms ++ x ∷ [])
worths_pushed v atoms slots x z e o = ap (λ s. s ++ z ∷ []) e ∙ ap (λ y. map (worth v) atoms ++ y ∷ []) o ∙ pushed atoms
  where
    pushed : (atoms : List Atom) → map (worth v) atoms ++ worth v x ∷ [] ≡ map (worth v) (atoms ++ x ∷ [])
    pushed [] = refl
    pushed (y ∷ atoms) = ap (λ s. worth v y ∷ s) (pushed atoms)

-- a slot that is given anew
pub worths_set : (v : ℕ → ℤ) (atoms : List Atom) (slots : List ℤ) (slot : ℕ) (x : Atom) (z : ℤ) → slots ≡ map (worth v) atoms → z ≡ worth v x
    → with_slot slots slot z ≡ map (worth v) (with_atom atoms slot x)
worths_set v atoms slots slot x z e o = ap (λ s. with_slot s slot z) e ∙ ap (λ y. with_slot (map (worth v) atoms) slot y) o ∙ put atoms slot
  where
    put : (atoms : List Atom) (slot : ℕ) → with_slot (map (worth v) atoms) slot (worth v x) ≡ map (worth v) (with_atom atoms slot x)
    put [] slot = refl
    put (y ∷ atoms) zero = refl
    put (y ∷ atoms) (suc slot) = ap (λ s. worth v y ∷ s) (put atoms slot)
