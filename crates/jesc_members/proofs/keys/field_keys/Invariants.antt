use Rattle.std.proofs.Common.{ℕ, List, map, take, bytes_eq}
use Rattle.jesc_members.specs.Keys.{HasKeys, HasNames}
use Rattle.jesc_members.proofs.keys.field_keys.Given as goal

abbrev pub invariant-loop-i : goal.invariant-loop-i
invariant-loop-i l = HasNames l.names (take l.i (map (λ f. f.tree.now.name.text) l.fields)) × HasKeys (List ℕ) bytes_eq (take l.i (map (λ f. f.tree.now.name.text) l.fields)) l.keys
