-- The constraint of a node does not depend on the numbers of its parts.
use Rattle.std.proofs.Common.{ℕ, List, [], ◌∷◌, Bool}
use Rattle.mls_automaton.specs.declared.scheme.Scheme.{Scheme}
use Rattle.mls_term.specs.declared.term.TermForm.TheVariants as form
use Rattle.mls_infer.specs.Constraints.{Constraint}
use Rattle.mls_infer.specs.Forms.{IsPosed}

pub posed_number : (m n : ℕ) (ss : List Scheme) (c : Constraint) → IsPosed (form.Number m) ss c → IsPosed (form.Number n) ss c
posed_number m n [] c posed = posed
posed_number m n (s ∷ ss) c posed = posed

pub posed_truth : (a b : Bool) (ss : List Scheme) (c : Constraint) → IsPosed (form.Truth a) ss c → IsPosed (form.Truth b) ss c
posed_truth a b [] c posed = posed
posed_truth a b (s ∷ ss) c posed = posed

pub posed_fun : (x i j : ℕ) (ss : List Scheme) (c : Constraint) → IsPosed (form.Fun x i) ss c → IsPosed (form.Fun x j) ss c
posed_fun x i j [] c posed = posed
posed_fun x i j (s ∷ []) c posed = posed
posed_fun x i j (s ∷ t ∷ ss) c posed = posed

pub posed_rec : (x i j : ℕ) (ss : List Scheme) (c : Constraint) → IsPosed (form.Rec x i) ss c → IsPosed (form.Rec x j) ss c
posed_rec x i j [] c posed = posed
posed_rec x i j (s ∷ []) c posed = posed
posed_rec x i j (s ∷ t ∷ ss) c posed = posed

pub posed_project : (i j : ℕ) (label : List ℕ) (ss : List Scheme) (c : Constraint) → IsPosed (form.Project i label) ss c → IsPosed (form.Project j label) ss c
posed_project i j label [] c posed = posed
posed_project i j label (s ∷ []) c posed = posed
posed_project i j label (s ∷ t ∷ ss) c posed = posed

pub posed_apply : (i j k l : ℕ) (ss : List Scheme) (c : Constraint) → IsPosed (form.Apply i j) ss c → IsPosed (form.Apply k l) ss c
posed_apply i j k l [] c posed = posed
posed_apply i j k l (s ∷ []) c posed = posed
posed_apply i j k l (s ∷ t ∷ []) c posed = posed
posed_apply i j k l (s ∷ t ∷ u ∷ ss) c posed = posed

pub posed_if : (i j k l m n : ℕ) (ss : List Scheme) (c : Constraint) → IsPosed (form.If i j k) ss c → IsPosed (form.If l m n) ss c
posed_if i j k l m n [] c posed = posed
posed_if i j k l m n (r ∷ []) c posed = posed
posed_if i j k l m n (r ∷ s ∷ []) c posed = posed
posed_if i j k l m n (r ∷ s ∷ t ∷ []) c posed = posed
posed_if i j k l m n (r ∷ s ∷ t ∷ u ∷ ss) c posed = posed

pub posed_let : (h i j k l m : ℕ) (ss : List Scheme) (c : Constraint) → IsPosed (form.Let h i j) ss c → IsPosed (form.Let k l m) ss c
posed_let h i j k l m [] c posed = posed
posed_let h i j k l m (s ∷ []) c posed = posed
posed_let h i j k l m (s ∷ t ∷ []) c posed = posed
posed_let h i j k l m (s ∷ t ∷ u ∷ ss) c posed = posed
