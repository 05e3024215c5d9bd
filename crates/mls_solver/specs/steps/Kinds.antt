-- The first clash of two heads, as a function.
use Rattle.std.specs.Prelude.{Bool, false, ◌&&◌, cond, List, is_some, is_none, Option, Some, None}
use Rattle.mls_automaton.specs.declared.automaton.FieldSet.{FieldSet}
use Rattle.mls_automaton.specs.declared.automaton.Head.{Head}
use Rattle.mls_automaton.specs.declared.automaton.HeadKind.{HeadKind}
use Rattle.mls_automaton.specs.declared.automaton.HeadKind.TheVariants as kind
use Rattle.mls_automaton.specs.Automata.{has_kind}
use Rattle.mls_automaton.specs.Heads.{set_at}

-- the first of the four kinds that has the bit
abbrev pub first_kind : Bool → Bool → Bool → Bool → Option HeadKind
first_kind b i f r = cond b (Some kind.Bool)
    (cond i (Some kind.Int) (cond f (Some kind.Function) (cond r (Some kind.Rcd) None)))

-- the first kind of the head that is another one than this
abbrev pub other_kind : Head → HeadKind → Option HeadKind
other_kind h kind.Bool = first_kind false h.integer (is_some h.function) (is_some h.fields)
other_kind h kind.Int = first_kind h.boolean false (is_some h.function) (is_some h.fields)
other_kind h kind.Function = first_kind h.boolean h.integer false (is_some h.fields)
other_kind h kind.Rcd = first_kind h.boolean h.integer (is_some h.function) false

-- whether the first head has the kind, and the second another one
abbrev pub is_unlike : Head → Head → HeadKind → Bool
is_unlike h k j = has_kind j h && is_some (other_kind k j)

-- the first kind of the first head beside which the second head has another one
abbrev pub unlike_kind : Head → Head → Option HeadKind
unlike_kind h k = first_kind (is_unlike h k kind.Bool) (is_unlike h k kind.Int) (is_unlike h k kind.Function)
    (is_unlike h k kind.Rcd)

-- whether there is no such field
abbrev pub lacks : List FieldSet → FieldSet → Bool
lacks fields other = is_none (set_at fields other.label)
