-- What an expression stands for, or the first rule broken in it: its parts from left to right, then its own rule.
use Rattle.std.specs.Prelude.{ℕ, Option, Some, None, List, [], ◌∷◌, Ok, codes, bytes_eq, if◌then◌else◌}
use Rattle.jesc_text.specs.declared.place.Span.{Span}
use Rattle.jesc_ast.specs.declared.word.Word.{Word}
use Rattle.jesc_ast.specs.Trees as ast
use Rattle.jesc_ast.specs.Trees.{list_of}
use Rattle.jesc_classes.specs.Answers.{Checked, and_then}
use Rattle.jesc_tree.specs.Trees.{Expression}
use Rattle.jesc_sites.specs.Arrays.{index_of, new_array_of}
use Rattle.jesc_sites.specs.Operations.{binary_of, cast_of, choose_of, instance_test_of, unary_of}
use Rattle.jesc_sites.specs.Parts.{enclosed}
use Rattle.jesc_sites.specs.Plain.{null_of, number_of, outcome_of, this_of, truth_of}
use Rattle.jesc_sites.specs.Sites.{Around, Setting, with_role}
use Rattle.jesc_sites.specs.Specified.{fresh_of, in_body, in_past, old_of, quantifier_of}
use Rattle.jesc_sites.specs.declared.site.Role.{Role}
use Rattle.jesc_sites.specs.declared.site.Role.TheVariants.{Operand, Negated, Qualifier}
use Rattle.jesc_references.specs.Calls.{Target, implied, super, of_class, on, call_of}
use Rattle.jesc_references.specs.Creations.{made_class, new_object_of}
use Rattle.jesc_references.specs.Fields.{member_of, name_of, static_field_of}
use Rattle.jesc_references.specs.Known.{qualifier_class}
use Rattle.jesc_references.specs.Written.{written_element, written_type}

-- what an operand is to the sign before it
abbrev pub role_behind : Word → Role
role_behind op = if bytes_eq op.text (codes "-") then Negated else Operand

-- the place of the dot before a called name, or that of the name
abbrev pub dot_before : ast.Receiver → Word → Span
dot_before (ast.on e dot) w = dot
dot_before r w = w.span

module _ (s : Setting) where
  -- behind the dot of a class that is named, and else of what stands there
  abbrev pub member_at : Around → Span → ast.Expression → ast.Expression → Span → Word → Option ℕ → Checked Expression → Checked Expression
  member_at a span whole e dot w (Some class) base = static_field_of s span whole w class
  member_at a span whole e dot w None base = and_then base (λ x. member_of s a.role span whole e dot w x)

  abbrev pub target_at : Option ℕ → Checked Expression → Checked Target
  target_at (Some class) base = Ok (of_class class)
  target_at None base = and_then base (λ x. Ok (on x))

  abbrev mutual
    pub resolved : Around → ast.Expression → Checked Expression
    resolved a (ast.number span x) = number_of s.lines a.role span x
    resolved a (ast.truth span b) = truth_of s.lines span b
    resolved a (ast.null span) = null_of s.lines span
    resolved a (ast.this span) = this_of s a.role span
    resolved a (ast.outcome span) = outcome_of s span
    resolved a (ast.name span x) = name_of s a span x
    resolved a (ast.paren span e) = and_then (resolved (with_role Operand a) e) (λ x. Ok (enclosed s.lines span x))
    resolved a (ast.member span e dot w) =
        member_at a span (ast.member span e dot w) e dot w (qualifier_class s a e) (resolved (with_role Qualifier a) e)
    resolved a (ast.index span e bracket i) =
        and_then (resolved (with_role Operand a) e) (λ x. and_then (resolved (with_role Operand a) i) (λ y. index_of s.lines span bracket e i x y))
    resolved a (ast.unary span op e) = and_then (resolved (with_role (role_behind op) a) e) (λ x. unary_of s.lines span op e x)
    resolved a (ast.binary span op l r) =
        and_then (resolved (with_role Operand a) l) (λ x. and_then (resolved (with_role Operand a) r) (λ y. binary_of s span op l r x y))
    resolved a (ast.choose span c question l r) =
        and_then (resolved (with_role Operand a) c) (λ t. and_then (resolved (with_role Operand a) l) (λ x. and_then (resolved (with_role Operand a) r) (λ y.
        choose_of s span question c l r t x y)))
    resolved a (ast.cast span t e) = and_then (written_type s t) (λ to. and_then (resolved (with_role Operand a) e) (λ x. cast_of s span e to x))
    resolved a (ast.instance_of span e t) =
        and_then (resolved (with_role Operand a) e) (λ x. and_then (written_type s t) (λ to. instance_test_of s span (ast.instance_of span e t) e to x))
    resolved a (ast.call span r w es) =
        and_then (target a r) (λ t. and_then (resolved_all a es) (λ xs. call_of s a.role span (ast.call span r w es) (dot_before r w) w t (list_of es) xs))
    resolved a (ast.new_object span w es) =
        and_then (made_class s w) (λ class. and_then (resolved_all a es) (λ xs. new_object_of s a.role span class (list_of es) xs))
    resolved a (ast.new_array span w e) =
        and_then (written_element s w) (λ element. and_then (resolved (with_role Operand a) e) (λ x. new_array_of s a.role span e element x))
    resolved a (ast.old span e) = and_then (resolved (in_past a) e) (λ x. old_of s span e x)
    resolved a (ast.fresh span e) = and_then (resolved (with_role Operand a) e) (λ x. fresh_of s span e x)
    resolved a (ast.quantifier span all w low low_strict high high_strict e) =
        and_then (resolved (with_role Operand a) low) (λ l. and_then (resolved (with_role Operand a) high) (λ h. and_then (resolved (in_body w.text a) e) (λ b.
        quantifier_of s a.variables span all low low_strict high high_strict e l h b)))

    -- what stands before a called name
    pub target : Around → ast.Receiver → Checked Target
    target a ast.implied = Ok implied
    target a ast.super = Ok super
    target a (ast.on e dot) = target_at (qualifier_class s a e) (resolved (with_role Qualifier a) e)

    -- arguments, one after the other
    pub resolved_all : Around → ast.Expressions → Checked (List Expression)
    resolved_all a ast.no_expressions = Ok []
    resolved_all a (ast.more_expressions e es) = and_then (resolved (with_role Operand a) e) (λ x. and_then (resolved_all a es) (λ xs. Ok (x ∷ xs)))
