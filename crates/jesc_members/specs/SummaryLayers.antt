-- Versions of a map from keys to summaries that has of each class what the classes above it declare.
use Rattle.std.specs.Prelude.{◌≡◌, ◌↔◌, ℕ, ◌<◌, true, false, Option, Some, None, List, [], ◌∷◌, length, get_or, slice_get}
use Rattle.jesc_classes.specs.Order.{Graph}
use Rattle.jesc_members.specs.declared.summary.Summary.{Summary}
use Rattle.jesc_members.specs.declared.summary_layers.Above.{Above}
use Rattle.jesc_lookup.specs.Lines.{IsLine}
use Rattle.jesc_lookup.specs.Maps.{Map, at}
use Rattle.jesc_members.specs.Methods.{MethodOf}
use Rattle.jesc_members.specs.Summaries.{Summarizes}

abbrev pub nothing_above : Above
nothing_above = record { version = 0; differs = false; hides = false }

abbrev pub above_at : List Above → ℕ → Above
above_at above class = get_or above class nothing_above

abbrev pub summary_of : List Summary → Option ℕ → Option Summary
summary_of summaries None = None
summary_of summaries (Some place) = slice_get summaries place

abbrev pub summary_at : List Map → List Summary → Above → ℕ → Option Summary
summary_at versions summaries a key = summary_of summaries (at (get_or versions a.version []) key)

abbrev pub has_differing : Option Summary → Type 0
has_differing None = ⊥
has_differing (Some s) = (s.many ≡ true) × (s.mixed ≡ true)

abbrev pub has_hidden : Option Summary → Type 0
has_hidden None = ⊥
has_hidden (Some s) = (s.many ≡ true) × (s.hides ≡ true)

-- what is known of these classes
pub record IsAbove (methods : List MethodOf) (keys : List ℕ) (rows : List (List ℕ)) (versions : List Map) (summaries : List Summary) (classes : List ℕ) (a : Above) : Type 0 where
  pub there : a.version < length versions
  pub each : (key : ℕ) → Summarizes methods keys rows classes key (summary_at versions summaries a key)
  pub differs : (a.differs ≡ true) ↔ ((key : ℕ) × has_differing (summary_at versions summaries a key))
  pub hides : (a.hides ≡ true) ↔ ((key : ℕ) × has_hidden (summary_at versions summaries a key))

-- of each class by number what is known of its line without itself
pub record AreSummaries (graph : Graph) (methods : List MethodOf) (keys : List ℕ) (rows : List (List ℕ)) (versions : List Map) (summaries : List Summary) (above : List Above) : Type 0 where
  pub count : length above ≡ length graph
  pub there : (class : ℕ) → class < length above → (above_at above class).version < length versions
  pub each : (class : ℕ) → class < length graph → (line : List ℕ) → IsLine graph class (class ∷ line) → IsAbove methods keys rows versions summaries line (above_at above class)
