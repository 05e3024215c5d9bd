-- Worked uses of names: `let k = fun x -> x in k`, where the constraint of the whole is a copy of the type of its first part, which stands
-- from node 4 on; and a name of the environment with the same type.
--     let_posed, global_posed
use Rattle.std.proofs.Common.{◌≡◌, ℕ, zero, suc, ◌+◌, ◌<◌, ◌==◌, arith, Bool, true, false, List, [], ◌∷◌, length, refl, sym, subst, Option, Some, None, cond}
use Rattle.std.specs.Prelude.{IsTrue, option_map}
use Rattle.std.specs.FinMap as env
use Rattle.std.specs.FinMap.{get-empty}
use Rattle.std.specs.Ordering.{nat_cmp}
use Rattle.std.proofs.lemmas.List.Elements.{All-cons, All-nil}
use Rattle.mls_book.specs.declared.book.Node.{Node}
use Rattle.mls_book.specs.declared.book.Node.TheVariants as node
use Rattle.mls_book.specs.Books.{node_at, IsOrdered, HasChildrenBelow, IsClosedBook}
use Rattle.mls_book.specs.Schemes.{Scheme}
use Rattle.mls_automaton.specs.Automata.{IsState, polarity_at, head_at, flow}
use Rattle.mls_automaton.specs.Models.{HasStatesIn, HasRisingLabels, IsClosed}
use Rattle.mls_automaton.specs.declared.automaton.Flow.{Flow}
use Rattle.mls_automaton.specs.declared.automaton.Polarity.TheVariants.{Positive, Negative}
use Rattle.mls_automaton.proofs.Lists.{Contains-here}
use Rattle.mls_term.specs.Terms.{TermTree, bound, inner, global, fun, local, before, postorder}
use Rattle.mls_term.specs.Derivations.{IsMeetAt}
use Rattle.mls_deriv.specs.declared.claim.Put.{Put}
use Rattle.mls_deriv.specs.Pairs.{put_at}
use Rattle.mls_deriv.specs.Steps.{env_of, raised, HasFrom, Before}
use Rattle.mls_layout.specs.Lets.{FirstPart}
use Rattle.mls_layout.specs.Posed.{IsPosed}
use Rattle.mls_layout.specs.PosedUses.{IsGlobalUse, IsInnerUse, IsLetUse, IsUse}
use Rattle.mls_layout.specs.Rows.{Fits}
use Rattle.mls_layout.specs.Uses.{NamesOnly, IsCopyOf}
use Rattle.mls_allowed.proofs.NameLayouts.{name_layout}
use Rattle.mls_allowed.proofs.NamesEmitted.{no_binder}
use Rattle.mls_allowed.proofs.WorkedIdentity.{identity, book, place_of, known_place, IsPlace, sign, NoGoal, type_layout, identity_copied, identity_puts}
use Rattle.mls_layout.proofs.WorkedParts.{nothing, contains_one}

heads : (s : ℕ) → HasStatesIn (IsState identity) (polarity_at identity s) (head_at identity s)
heads zero = record {
  function = (
    All-cons (IsState identity Negative) 1 [] (record { in_range = omega arith; polarity = refl }) (All-nil (IsState identity Negative)),
    All-cons (IsState identity Positive) 2 [] (record { in_range = omega arith; polarity = refl }) (All-nil (IsState identity Positive)),
  );
  fields = tt;
}
heads (suc zero) = record { function = tt; fields = tt }
heads (suc (suc zero)) = record { function = tt; fields = tt }
heads (suc (suc (suc s))) = record { function = tt; fields = tt }

labels : (s : ℕ) → HasRisingLabels (head_at identity s).fields
labels zero = tt
labels (suc zero) = tt
labels (suc (suc zero)) = tt
labels (suc (suc (suc s))) = tt

pub identity_closed : IsClosed identity
identity_closed = record {
  heads = heads;
  labels = labels;
  negative = λ f there. subst (λ (g : Flow). IsState identity Negative g.negative.0) (contains_one (flow 1 2) f there) (record { in_range = omega arith; polarity = refl });
  positive = λ f there. subst (λ (g : Flow). IsState identity Positive g.positive.0) (contains_one (flow 1 2) f there) (record { in_range = omega arith; polarity = refl });
}

abbrev pub the_puts : List Put
the_puts = record { variable = 1; node = 1 } ∷ []

pub put_low : (t : Bool) (n : ℕ) → option_map (λ (put : Put). put.node) (cond t (Some (record { variable = 1; node = 1 })) None) ≡ Some n → n < length book
put_low true n e = let same : 1 ≡ n = cc in subst (λ z. z < length book) same (omega arith)
put_low false n e = absurd (cc)

unfoldable pub known_copy : IsCopyOf book identity place_of IsPlace 0
unfolding type_layout name_layout
known_copy = record {
  sign = sign;
  known_place = known_place;
  copy = λ s. s;
  type = name_layout book identity identity identity_closed IsPlace (λ s. refl) known_place (λ s. s) (type_layout book 4 5 6 7 1 refl refl refl refl) identity_copied;
  puts = the_puts;
  are = identity_puts;
  low = λ x n e. put_low (1 == x) n e;
  at_top = refl;
  is_positive = refl;
}

ordered : (i : ℕ) → IsOrdered i (node_at book i)
ordered zero = tt
ordered (suc zero) = tt
ordered (suc (suc zero)) = tt
ordered (suc (suc (suc zero))) = tt
ordered (suc (suc (suc (suc zero)))) = tt
ordered (suc (suc (suc (suc (suc zero))))) = tt
ordered (suc (suc (suc (suc (suc (suc zero)))))) = tt
ordered (suc (suc (suc (suc (suc (suc (suc zero))))))) = tt
ordered (suc (suc (suc (suc (suc (suc (suc (suc i)))))))) = tt

abbrev four : List Node
four = node.Arrow (record { 0 = 5 }) (record { 0 = 6 }) ∷ node.Var 1 ∷ node.Var 1 ∷ node.Bot ∷ []

abbrev Low : Node → Type 0
Low = HasChildrenBelow 8

pub closed_book : IsClosedBook book
closed_book = record {
  book = ordered;
  closed =
      All-cons Low (node.Arrow (record { 0 = 1 }) (record { 0 = 2 })) (node.Var 0 ∷ node.Var 0 ∷ node.Arrow (record { 0 = 1 }) (record { 0 = 1 }) ∷ four) (omega arith, omega arith)
      (All-cons Low (node.Var 0) (node.Var 0 ∷ node.Arrow (record { 0 = 1 }) (record { 0 = 1 }) ∷ four) tt
      (All-cons Low (node.Var 0) (node.Arrow (record { 0 = 1 }) (record { 0 = 1 }) ∷ four) tt
      (All-cons Low (node.Arrow (record { 0 = 1 }) (record { 0 = 1 })) four (omega arith, omega arith)
      (All-cons Low (node.Arrow (record { 0 = 5 }) (record { 0 = 6 })) (node.Var 1 ∷ node.Var 1 ∷ node.Bot ∷ []) (omega arith, omega arith)
      (All-cons Low (node.Var 1) (node.Var 1 ∷ node.Bot ∷ []) tt
      (All-cons Low (node.Var 1) (node.Bot ∷ []) tt
      (All-cons Low node.Bot [] tt (All-nil Low))))))));
}

-- every node of the term but the first part has the root of the constraint
abbrev pub root : ℕ → ℕ
root i = 0

abbrev pub binder : ℕ → ℕ
binder x = 1

abbrev pub IsPlaceAt : ℕ → ℕ → Type 0
IsPlaceAt i s = IsPlace s

-- the nodes of the constraint
abbrev pub is_free : ℕ → ℕ → Bool
is_free i zero = false
is_free i (suc zero) = true
is_free i (suc (suc zero)) = false
is_free i (suc (suc (suc zero))) = true
is_free i (suc (suc (suc (suc n)))) = false

abbrev pub IsFreeAt : ℕ → ℕ → Type 0
IsFreeAt i n = IsTrue (is_free i n)

children : (n : ℕ) → IsFreeAt 3 n → NamesOnly (IsFreeAt 3) (node_at book n)
children zero is = absurd (cc)
children (suc zero) is = tt
children (suc (suc zero)) is = absurd (cc)
children (suc (suc (suc zero))) is = (refl, refl)
children (suc (suc (suc (suc n)))) is = absurd (cc)

no_put : (n x : ℕ) → IsFreeAt 3 n → node_at book n ≡ node.Var x → put_at the_puts x ≡ None
no_put zero x is e = absurd (cc)
no_put (suc zero) x is e = let same : 0 ≡ x = cc in subst (λ z. put_at the_puts z ≡ None) same refl
no_put (suc (suc zero)) x is e = absurd (cc)
no_put (suc (suc (suc zero))) x is e = absurd (cc)
no_put (suc (suc (suc (suc n)))) x is e = absurd (cc)

-- the scheme of a name of the environment
abbrev pub scheme : Scheme
scheme = record { book = node.Arrow (record { 0 = 1 }) (record { 0 = 2 }) ∷ node.Var 1 ∷ node.Var 1 ∷ []; env = env.empty; root = 0 }

abbrev pub section_of : TermTree → Before
section_of t = record { term_nodes = postorder 0 t; globals = scheme ∷ []; book = book; steps = []; lets = [] }

abbrev pub the_let : TermTree
the_let = local 0 0 (fun 0 0 (bound 0 0)) (inner 0 0)

-- the first part, at its type
abbrev pub first : FirstPart
first = record { number = 0; part = 1; env = env_of []; type = 4 }

pub fits : (b : Before) → b.book ≡ book → (t : ℕ) → t < 8 → Fits b [] t
fits b same t low = record {
  scheme = record {
    book = subst IsClosedBook (sym same) closed_book;
    root = subst (λ (l : List Node). t < length l) (sym same) low;
    env = λ x i found. absurd (no_binder x i found);
  };
  rising = tt;
}

pub met : (o : Option ℕ) → o ≡ None → IsMeetAt book o o o
met None e = refl
met (Some n) e = absurd (cc)

let_use : IsLetUse (section_of the_let) identity place_of (first ∷ []) root binder IsPlaceAt IsFreeAt [] 3 0 1
unfolding known_copy
let_use = record {
  first = first;
  known = Contains-here first [];
  number = refl;
  part = refl;
  top = 0;
  copied = known_copy;
  both = [];
  meet = λ x. met (env.get (env_of []) x) (get-empty nat_cmp x);
  fits = fits (section_of the_let) refl 3 (omega arith);
  free = record { children = children; variables = no_put };
  free_root = refl;
  free_binder = λ x there. absurd (nothing x there);
  bound = λ x n found. absurd (no_binder x n found);
}

inner_use : IsInnerUse (section_of the_let) identity place_of (first ∷ []) root binder IsPlaceAt IsFreeAt [] 2 0
unfolding known_copy
inner_use = record {
  first = first;
  known = Contains-here first [];
  number = refl;
  top = 0;
  copied = known_copy;
  is_root = refl;
  type = refl;
  binders = [];
  env = refl;
  fits = fits (section_of the_let) refl 4 (omega arith);
  bound = λ x n found. absurd (no_binder x n found);
}

pub let_posed : IsPosed (postorder 0 the_let) identity NoGoal root binder (IsUse (section_of the_let) identity place_of (first ∷ []) root binder IsPlaceAt IsFreeAt) [] 3 the_let
unfolding postorder before
let_posed = (1, 2, refl, refl, let_use, (refl, inner_use))

global_use : IsGlobalUse (section_of (global 0 0)) identity place_of [] root binder IsPlaceAt IsFreeAt 0 0
unfolding known_copy
global_use = record {
  top = 0;
  copied = known_copy;
  is_root = refl;
  from = 4;
  scheme = scheme;
  known = refl;
  stands = from_four;
  type = refl;
  inside = omega arith;
}
  where
    nodes : (i : ℕ) → i < 3 → node_at book (4 + i) ≡ raised 4 (node_at scheme.book i)
    nodes zero low = refl
    nodes (suc zero) low = refl
    nodes (suc (suc zero)) low = refl
    nodes (suc (suc (suc i))) low = absurd (omega (arith, low))

    from_four : HasFrom book 4 scheme.book
    from_four = record { within = omega arith; nodes = nodes }

pub global_posed : IsPosed (postorder 0 (global 0 0)) identity NoGoal root binder (IsUse (section_of (global 0 0)) identity place_of [] root binder IsPlaceAt IsFreeAt) [] 0 (global 0 0)
unfolding postorder before
global_posed = (refl, global_use)
