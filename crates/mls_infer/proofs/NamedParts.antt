-- Known names, and the part of a let under any number.
--     inner_added, global_added    a known name is added
--     binder_added                 a binder
--     parts_there                  each other node has its parts
--     let_numbered                 a let
use Rattle.std.proofs.Common.{◌≡◌, ◌≢◌, ◌++◌, ◌∷◌, ℕ, List, [], refl, subst, sym, Some}
use Rattle.mls_automaton.specs.declared.scheme.Scheme.{Scheme}
use Rattle.mls_biunify.specs.Live.{Live}
use Rattle.mls_term.specs.declared.term.TermForm.{TermForm}
use Rattle.mls_term.specs.declared.term.TermForm.TheVariants as form
use Rattle.mls_infer.specs.declared.done.Known.{Known}
use Rattle.mls_infer.specs.Constraints.{bound_constraint, bound_scheme, no_goals}
use Rattle.mls_infer.specs.Doing.{AreDone, IsAddedIn, IsBuiltIn, schemes_known}
use Rattle.mls_infer.specs.Fields.{IsKnownType, Shared}
use Rattle.mls_infer.specs.Finished.{Finished, Has}
use Rattle.mls_infer.specs.Finishing.{CanStep, HasParts, IsAnswer, IsRead, KeepsBut, Scope, is_solved}
use Rattle.mls_infer.specs.Forms.{children}
use Rattle.mls_infer.specs.Merges.{HaveSameTypes}
use Rattle.mls_infer.specs.Regions.{TablePart}
use Rattle.mls_infer.proofs.ClosedConstraints.{bound_closed}
use Rattle.mls_infer.proofs.DoneNodes.{keeps_self, own_types}
use Rattle.mls_infer.proofs.KnownSchemes.{answer_copied, answer_read}
use Rattle.mls_infer.proofs.OneState.{scheme_states}
use Rattle.mls_infer.proofs.PosedForms.{posed_let}

-- A known type is added: what was known before stays.
module _ (scope : Scope) (first rest : Finished) (new : Live) (more : List Known) (r : Shared) (is : IsKnownType r.value) (keeps : KeepsBut [] first rest) (done : AreDone new more) (adds : schemes_known new more ≡ rest ++ Some r.value.scheme ∷ []) where
  named_added : (node : TermForm) → children node ≡ [] → IsAnswer scope node first r.value.scheme → IsAddedIn scope node first new more
  named_added node none answer = record {
    done = done;
    scheme = r.value.scheme;
    answer = record { answer = answer; states = scheme_states r.value.scheme is.scheme is.rise };
    rest = rest;
    keeps = rw none keeps;
    adds = subst (KeepsBut [] (rest ++ Some r.value.scheme ∷ [])) (sym adds) (keeps_self (rest ++ Some r.value.scheme ∷ []));
  }

  pub inner_added : (k i : ℕ) (s : Scheme) → scope.first_of k ≡ Some i → Has first i s → HaveSameTypes (no_goals s) (no_goals r.value.scheme) → IsAddedIn scope (form.Inner k) first new more
  inner_added k i s at has alike = named_added (form.Inner k) refl (answer_copied scope first k i s r.value.scheme at has alike)

  pub global_added : (g : ℕ) → IsRead scope.globals g r.value.scheme → IsAddedIn scope (form.Global g) first new more
  global_added g read = named_added (form.Global g) refl (answer_read scope first g r.value.scheme r.value.scheme read (own_types r.value.scheme))

-- a binder is added
pub binder_added : (scope : Scope) (first : Finished) (new : Live) (more : List Known) (x : ℕ) → AreDone new more → schemes_known new more ≡ first ++ Some (bound_scheme x) ∷ [] → IsAddedIn scope (form.Bound x) first new more
binder_added scope first new more x done adds = record {
  done = done;
  scheme = bound_scheme x;
  answer = record {
    answer =
        is_solved (bound_constraint x) (record { schemes = []; each = tt; taken = []; alike = tt; is = refl })
        (record { states = (bound_closed x).states; just = λ types f. (λ h. h, λ h. h) });
    states = (bound_closed x).states;
  };
  rest = first;
  keeps = keeps_self first;
  adds = subst (KeepsBut [] (first ++ Some (bound_scheme x) ∷ [])) (sym adds) (keeps_self (first ++ Some (bound_scheme x) ∷ []));
}

-- a node that is no known name has its parts
pub parts_there : (scope : Scope) (first : Finished) (node : TermForm) → CanStep scope node first → ((k : ℕ) → node ≢ form.Inner k) → ((g : ℕ) → node ≢ form.Global g) → HasParts node first
parts_there scope first (form.Inner k) can inner global = absurd (inner k refl)
parts_there scope first (form.Global g) can inner global = absurd (global g refl)
parts_there scope first (form.Bound x) can inner global = can
parts_there scope first (form.Number n) can inner global = can
parts_there scope first (form.Truth b) can inner global = can
parts_there scope first (form.Fun x e) can inner global = can
parts_there scope first (form.Apply f a) can inner global = can
parts_there scope first (form.Make parts) can inner global = can
parts_there scope first (form.Project e label) can inner global = can
parts_there scope first (form.If c e f) can inner global = can
parts_there scope first (form.Let k e f) can inner global = can
parts_there scope first (form.Rec x e) can inner global = can

-- the number of a let does not count
pub let_parts : (j k e f : ℕ) (first : Finished) → HasParts (form.Let j e f) first → HasParts (form.Let k e f) first
let_parts j k e f first parts = record { schemes = parts.schemes; each = parts.each; are = parts.are; distinct = parts.distinct; built = parts.built }

pub let_numbered : (j k e f : ℕ) (first : Finished) (live : Live) (nodes : List Known) (part : TablePart) → IsBuiltIn (form.Let j e f) first live nodes part → IsBuiltIn (form.Let k e f) first live nodes part
let_numbered j k e f first live nodes part built = record {
  done = built.done;
  beside = built.beside;
  constraint = built.constraint;
  posed = record {
    schemes = built.posed.schemes;
    each = built.posed.each;
    taken = built.posed.taken;
    alike = built.posed.alike;
    is = posed_let j e f k e f built.posed.taken built.constraint built.posed.is;
  };
  solution = built.solution;
  keeps = built.keeps;
}
