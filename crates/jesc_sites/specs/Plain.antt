-- The rules of expressions without parts that name nothing: literals, `this` and `\result`.
use Rattle.std.specs.Prelude.{ℕ, ℤ, pos, int_le, int_lt, ◌-◌, Bool, true, false, Option, Some, None, List, length, get_or, Ok, codes, if◌then◌else◌}
use Rattle.jesc_text.specs.declared.place.Span.{Span}
use Rattle.jesc_lexer.specs.Characters.{is_suffix}
use Rattle.jesc_classes.specs.Answers.{Checked}
use Rattle.jesc_classes.specs.declared.rule.Rule.TheVariants.{Y1, Y3, Y6}
use Rattle.jesc_member_rules.specs.Types.{number_value}
use Rattle.jesc_tree.specs.declared.ty.Ty.{Ty}
use Rattle.jesc_tree.specs.declared.ty.Ty.TheVariants as ty
use Rattle.jesc_tree.specs.Subtypes.{class_id}
use Rattle.jesc_tree.specs.Trees.{Expression, number, truth, null, this, outcome}
use Rattle.jesc_sites.specs.Parts.{plain, refused_at}
use Rattle.jesc_sites.specs.Sites.{Setting}
use Rattle.jesc_sites.specs.declared.site.Role.{Role}
use Rattle.jesc_sites.specs.declared.site.Role.TheVariants.{Qualifier, Negated}
use Rattle.jesc_sites.specs.declared.site.This.{This}
use Rattle.jesc_sites.specs.declared.site.This.TheVariants.{Absent, Guarded, Free}

-- ---- numbers (JLS 3.10.1)

-- a number that ends in `L` or `l` is a `long`
abbrev pub is_long : List ℕ → Bool
is_long text = is_suffix (get_or text (length text - 1) 0)

-- the greatest literal, which stands only behind a minus sign
abbrev pub greatest : List ℕ → ℤ
greatest text = if is_long text then pos 9223372036854775808 else pos 2147483648

abbrev pub may_be_read : Role → List ℕ → ℤ → Bool
may_be_read Negated text n = int_le n (greatest text)
may_be_read role text n = int_lt n (greatest text)

abbrev pub number_type : List ℕ → Ty
number_type text = if is_long text then ty.Long else ty.Int

abbrev pub number_by : List ℕ → Role → Span → List ℕ → Option ℤ → Checked Expression
number_by lines role span text (Some n) =
    if may_be_read role text n then Ok (plain lines span (number_type text) (number n)) else refused_at Y1 lines span text
number_by lines role span text None = refused_at Y1 lines span text

abbrev pub number_of : List ℕ → Role → Span → List ℕ → Checked Expression
number_of lines role span text = number_by lines role span text (number_value text)

-- ---- the other literals

abbrev pub truth_of : List ℕ → Span → Bool → Checked Expression
truth_of lines span b = Ok (plain lines span ty.Bool (truth b))

abbrev pub null_of : List ℕ → Span → Checked Expression
null_of lines span = Ok (plain lines span ty.Null null)

-- ---- `this` and `\result`

-- `this` may be written there (JLS 15.8.3)
abbrev pub may_say_this : This → Role → Bool
may_say_this Absent role = false
may_say_this Guarded Qualifier = true
may_say_this Guarded role = false
may_say_this Free role = true

abbrev pub this_of : Setting → Role → Span → Checked Expression
this_of s role span =
    if may_say_this s.this role then Ok (plain s.lines span (ty.Ref (class_id s.class)) this) else refused_at Y3 s.lines span (codes "this")

abbrev pub outcome_by : List ℕ → Span → Option Ty → Checked Expression
outcome_by lines span (Some t) = Ok (plain lines span t outcome)
outcome_by lines span None = refused_at Y6 lines span (codes "\\result")

-- `\result` (JML Reference Manual 12.4.1)
abbrev pub outcome_of : Setting → Span → Checked Expression
outcome_of s span = outcome_by s.lines span s.result
