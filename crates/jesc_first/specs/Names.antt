-- The rules of the first profile on names, numbers and `\result`.
use Rattle.std.specs.Prelude.{◌≡◌, ℕ, ◌<◌, ◌≤◌, Bool, true, false, ◌||◌, ◌&&◌, nat_le, nat_eq, List, [], ◌∷◌, ◌++◌, length, codes, Option, Some, None, All, Contains, map}
use Rattle.std.specs.List.{list_any}
use Rattle.std.specs.Str.{bytes_eq}
use Rattle.jesc_first.specs.declared.tree.Part.{Part}
use Rattle.jesc_first.specs.declared.tree.Part.TheVariants.{Number, Slot, Outcome}
use Rattle.jesc_first.specs.declared.tree.Sum.{Sum}
use Rattle.jesc_first.specs.declared.tree.Condition.{Condition}
use Rattle.jesc_first.specs.declared.tree.Stmt.{Stmt}
use Rattle.jesc_first.specs.declared.tree.Stmt.TheVariants.{Local, Assign, Assert}
use Rattle.jesc_first.specs.declared.tree.Method.{Method}
use Rattle.jesc_first.specs.declared.tree.Class.{Class}
use Rattle.jesc_first.specs.Spelling.{scope_after, scope_at_end}

-- ASCII letters and the underscore
abbrev pub is_letter : ℕ → Bool
is_letter b = (nat_le 97 b && nat_le b 122) || (nat_le 65 b && nat_le b 90) || nat_eq b 95

abbrev pub is_digit : ℕ → Bool
is_digit b = nat_le 48 b && nat_le b 57

abbrev pub is_word_byte : ℕ → Bool
is_word_byte b = is_letter b || is_digit b

-- the keywords and literals of Java, and the underscore alone
abbrev pub reserved_words : List (List ℕ)
reserved_words =
    codes "abstract" ∷ codes "assert" ∷ codes "boolean" ∷ codes "break" ∷ codes "byte" ∷ codes "case" ∷ codes "catch" ∷ codes "char"
    ∷ codes "class" ∷ codes "const" ∷ codes "continue" ∷ codes "default" ∷ codes "do" ∷ codes "double" ∷ codes "else" ∷ codes "enum"
    ∷ codes "extends" ∷ codes "final" ∷ codes "finally" ∷ codes "float" ∷ codes "for" ∷ codes "goto" ∷ codes "if" ∷ codes "implements"
    ∷ codes "import" ∷ codes "instanceof" ∷ codes "int" ∷ codes "interface" ∷ codes "long" ∷ codes "native" ∷ codes "new"
    ∷ codes "package" ∷ codes "private" ∷ codes "protected" ∷ codes "public" ∷ codes "return" ∷ codes "short" ∷ codes "static"
    ∷ codes "strictfp" ∷ codes "super" ∷ codes "switch" ∷ codes "synchronized" ∷ codes "this" ∷ codes "throw" ∷ codes "throws"
    ∷ codes "transient" ∷ codes "try" ∷ codes "void" ∷ codes "volatile" ∷ codes "while" ∷ codes "_"
    ∷ codes "true" ∷ codes "false" ∷ codes "null" ∷ []

abbrev pub is_reserved : List ℕ → Bool
is_reserved text = list_any (λ reserved. bytes_eq text reserved) reserved_words

-- letters, digits and underscores, the first no digit, and not reserved
abbrev pub IsName : List ℕ → Type 0
IsName [] = ⊥
IsName (b ∷ bytes) = (is_letter b ≡ true) × All (λ c. is_word_byte c ≡ true) bytes × (is_reserved (b ∷ bytes) ≡ false)

-- `outcome` tells whether \result may stand here; `slots` is how many names are in scope
abbrev pub IsPart : Bool → ℕ → Part → Type 0
IsPart outcome slots (Number n) = n ≤ 2147483647
IsPart outcome slots (Slot slot) = slot < slots
IsPart outcome slots Outcome = outcome ≡ true

abbrev pub IsSum : Bool → ℕ → Sum → Type 0
IsSum outcome slots sum = IsPart outcome slots sum.first × All (λ operation. IsPart outcome slots operation.part) sum.rest

abbrev pub IsCondition : Bool → ℕ → Condition → Type 0
IsCondition outcome slots condition = IsSum outcome slots condition.left × IsSum outcome slots condition.right

-- a new name, which isn't in scope
abbrev pub IsNew : List (List ℕ) → List ℕ → Type 0
IsNew scope name = IsName name × ¬ (Contains scope name)

abbrev pub IsStatement : List (List ℕ) → Stmt → Type 0
IsStatement scope (Local name value) = IsNew scope name × IsSum false (length scope) value
IsStatement scope (Assign slot value) = (slot < length scope) × IsSum false (length scope) value
IsStatement scope (Assert at condition) = IsCondition false (length scope) condition

abbrev pub IsBody : List (List ℕ) → List Stmt → Type 0
IsBody scope [] = Unit {0}
IsBody scope (statement ∷ rest) = IsStatement scope statement × IsBody (scope_after scope statement) rest

-- each name is new after those before it
abbrev pub AreNew : List (List ℕ) → List (List ℕ) → Type 0
AreNew scope [] = Unit {0}
AreNew scope (name ∷ rest) = IsNew scope name × AreNew (scope ++ name ∷ []) rest

abbrev pub is_some_sum : Option Sum → Bool
is_some_sum (Some value) = true
is_some_sum None = false

abbrev pub IsValue : ℕ → Option Sum → Type 0
IsValue slots (Some value) = IsSum false slots value
IsValue slots None = Unit {0}

pub record IsMethod (method : Method) : Type 0 where
  pub named : IsName method.name
  pub parameters : AreNew [] method.parameters
  pub demands : All (IsCondition false (length method.parameters)) method.demands
  pub promises : All (λ clause. IsCondition (is_some_sum method.value) (length method.parameters) clause.condition) method.promises
  pub body : IsBody method.parameters method.body
  pub value : IsValue (length (scope_at_end method.parameters method.body)) method.value

-- no two methods have one name
pub record IsClass (class : Class) : Type 0 where
  pub named : IsName class.name
  pub methods : All IsMethod class.methods
  pub distinct : AreNew [] (map (λ method. method.name) class.methods)
