-- Methods of one name and number of parameters among a class and its supertypes (JLS 8.4.8).
use Rattle.std.specs.Prelude.{◌≡◌, ℕ, ◌⊎◌, true, false, Some, List, length, slice_get}
use Rattle.std.specs.List.{Contains}
use Rattle.jesc_classes.specs.Headings.{Source, graph_of}
use Rattle.jesc_classes.specs.Order.{Above}
use Rattle.jesc_members.specs.Methods.{MethodOf, methods_of, signature, is_hidden, has_body}
use Rattle.jesc_members.specs.Meanings.{MethodFound}

abbrev pub AreAlike : MethodOf → MethodOf → Type 0
AreAlike a b = (a.tree.name.text ≡ b.tree.name.text) × (length a.tree.params ≡ length b.tree.params)

-- other parameter types, another result type or another nullity
abbrev pub Differ : MethodOf → MethodOf → Type 0
Differ a b = signature a.tree ≡ signature b.tree → ⊥

-- one of the two is private or static
abbrev pub IsOneHidden : MethodOf → MethodOf → Type 0
IsOneHidden a b = (is_hidden a.tree ≡ true) ⊎ (is_hidden b.tree ≡ true)

-- a given class declares the method above the class
abbrev pub IsDeclaredAbove : List Source → ℕ → MethodOf → Type 0
IsDeclaredAbove given class m = Contains (methods_of given) m × Above (graph_of given) class m.class

-- two types above the class declare like methods of which this is true
abbrev pub IsPairAbove : List Source → ℕ → (MethodOf → MethodOf → Type 0) → Type 0
IsPairAbove given class P = (a b : MethodOf) × IsDeclaredAbove given class a × IsDeclaredAbove given class b × (a.class ≡ b.class → ⊥) × AreAlike a b × P a b

-- a type above the method's class declares a like method of which this is true
abbrev pub IsLikeAbove : List Source → MethodOf → (MethodOf → Type 0) → Type 0
IsLikeAbove given m P = (b : MethodOf) × IsDeclaredAbove given m.class b × AreAlike m b × P b

-- a name and a number of parameters mean a method without a body
abbrev pub IsOpen : List Source → ℕ → Type 0
IsOpen given class = (name : List ℕ) × (count k : ℕ) × (m : MethodOf) × MethodFound given name count class (Some k) × (slice_get (methods_of given) k ≡ Some m) × (has_body m.tree ≡ false)
