use Rattle.std.proofs.Common.{length, map, take}
use Rattle.jesc_members.specs.Counts.{AreCounted, Label, alike}
use Rattle.jesc_members.specs.Keys.{HasKeys, HasNames}
use Rattle.jesc_members.proofs.method_keys.method_keys.Given as goal

abbrev pub invariant-loop-i : goal.invariant-loop-i
invariant-loop-i l =
    HasNames l.names (map (λ (x : Label). x.0) (take l.i (map (λ m. (m.tree.now.name.text, length m.tree.now.params)) l.methods)))
    × AreCounted l.each_count (length l.methods) (take l.i (map (λ m. (m.tree.now.name.text, length m.tree.now.params)) l.methods)) l.rows.items
    × HasKeys Label alike (take l.i (map (λ m. (m.tree.now.name.text, length m.tree.now.params)) l.methods)) l.keys
