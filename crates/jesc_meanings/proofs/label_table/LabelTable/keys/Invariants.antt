use Rattle.std.proofs.Common.{◌≡◌, ◌<◌, ℕ, None, map, length, get_or}
use Rattle.jesc_meanings.specs.Labels.{first_labelled, key_by, seen}
use Rattle.jesc_meanings.proofs.label_table.LabelTable.keys.Given as goal

abbrev pub invariant-loop-i : goal.invariant-loop-i
invariant-loop-i l = (length l.keys ≡ l.i) × ((j : ℕ) → j < l.i → get_or l.keys j 0 ≡ key_by (λ key. first_labelled key (map seen l.labels)) j (get_or (map seen l.labels) j None))
