-- The schemes of a use of a binder and of a literal.
use Rattle.std.specs.Prelude.{ℕ, [], ◌∷◌, true, false, None}
use Rattle.mls_automaton.specs.declared.automaton.Polarity.TheVariants.{Positive, Negative}
use Rattle.mls_automaton.specs.declared.automaton.Head.{Head}
use Rattle.mls_automaton.specs.declared.automaton.HeadKind.{HeadKind}
use Rattle.mls_automaton.specs.declared.automaton.HeadKind.TheVariants as kind
use Rattle.mls_automaton.specs.declared.scheme.Scheme.{Scheme}
use Rattle.mls_automaton.specs.Automata.{empty_head, flow}

-- A negative state, a positive one, and the edge between them: a variable is what the binder has, and the type.
abbrev pub lambda_scheme : ℕ → Scheme
lambda_scheme binder = record {
  automaton = record {
    states = record { polarity = Negative; head = empty_head } ∷ record { polarity = Positive; head = empty_head } ∷ [];
    flows = flow 0 1 ∷ [];
  };
  env = record { binder = binder; state = record { 0 = 0 } } ∷ [];
  root = record { 0 = 1 };
}

-- the head with this base type alone
abbrev pub base_head : HeadKind → Head
base_head kind.Bool = record { boolean = true; integer = false; function = None; fields = None }
base_head kind.Int = record { boolean = false; integer = true; function = None; fields = None }
base_head _ = empty_head

-- one positive state with this base type
abbrev pub constant_scheme : HeadKind → Scheme
constant_scheme k = record {
  automaton = record { states = record { polarity = Positive; head = base_head k } ∷ []; flows = [] };
  env = [];
  root = record { 0 = 0 };
}
