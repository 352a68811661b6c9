-- Setting a class: by a call of its own, again only while no held rule uses it (document 02, request 5).
-- Assumes nothing.
use Rattle.std.specs.Prelude.{ℕ, Bool, cond, not, ◌&&◌, ◌||◌, List, eqb}
use Rattle.rules.specs.Shape.{Production, Entry}
use Rattle.classes.specs.Classes.{Classes, any, is_in, is_class, class_shape}

-- the classes with the letters of one set
abbrev pub with_class : Classes → ℕ → List ℕ → Classes
with_class k c l x = cond (eqb x c) l (k x)

-- a rule uses the symbol in a context
abbrev pub rule_uses : ℕ → Production → Bool
rule_uses c r = is_in c r.left || is_in c r.right

-- a rule of the list does
abbrev pub list_uses : ℕ → List Entry → Bool
list_uses c l = any (λ e. rule_uses c e.rule) l

-- a class may be set so, beside the rules held
unfoldable pub settable : List Entry → ℕ → List ℕ → Bool
settable rules c l = is_class c && (class_shape l && not (list_uses c rules))
