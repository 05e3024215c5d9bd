-- What is written by several puts.
use Rattle.std.proofs.Common.{◌≡◌, ℕ, List, ◌++◌, refl, sym, ap, ◌∙◌, append_assoc}
use Rattle.std.specs.Prelude.{Option, Some, None, option_map}
use Rattle.mls_io.specs.Sinks.{Written, Adds, TakesSome}
use Rattle.mls_top.specs.Writing.{AddsBefore, AddsFront}

append-twice : (o : Option (List ℕ)) (front line : List ℕ) → option_map (λ b. b ++ line) (option_map (λ b. b ++ front) o) ≡ option_map (λ b. b ++ (front ++ line)) o
append-twice None front line = refl
append-twice (Some b) front line = ap (λ (x : List ℕ). Some x) (append_assoc b front line)

-- two pieces after one another are one
pub Adds-both : (old mid new : Written) (front line : List ℕ) → Adds old mid front → Adds mid new line → Adds old new (front ++ line)
Adds-both old mid new front line first second =
    second ∙ ap (λ o. option_map (λ b. b ++ line) o) first ∙ append-twice old.bytes front line

-- a line more was added
pub AddsBefore-line : (old mid new : Written) (text left line rest : List ℕ) → AddsBefore old mid text left → left ≡ line ++ rest → Adds mid new line → AddsBefore old new text rest
AddsBefore-line old mid new text left line rest before parts adds = record {
  front = before.front ++ line;
  parts = before.parts ∙ ap (λ l. before.front ++ l) parts ∙ sym (append_assoc before.front line rest);
  adds = Adds-both old mid new before.front line before.adds adds;
}

-- a part of a line more was added
pub AddsFront-part : (old mid new : Written) (text left line rest : List ℕ) → AddsBefore old mid text left → left ≡ line ++ rest → TakesSome mid new line → AddsFront old new text
AddsFront-part old mid new text left line rest before parts some =
    let whole : left ≡ some.taken ++ (some.left ++ rest) = parts ∙ ap (λ l. l ++ rest) some.parts ∙ append_assoc some.taken some.left rest in
    (some.left ++ rest, AddsBefore-line old mid new text left some.taken (some.left ++ rest) before whole some.adds)
