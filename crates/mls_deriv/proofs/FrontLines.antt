-- The lines in front of what is left of a text.
use Rattle.std.proofs.Common.{◌≡◌, ℕ, List, ◌∷◌, ◌++◌, [], Some, None, sym, ap, subst, refl, ◌∙◌}
use Rattle.std.specs.Prelude.{Option, MatchOption, All, codes}
use Rattle.std.specs.List.{flat_map}
use Rattle.std.proofs.lemmas.List.Elements.{All-push}
use Rattle.mls_book.specs.declared.book.Node.{Node}
use Rattle.mls_deriv.specs.declared.derivation.SectionLine.{SectionLine}
use Rattle.mls_deriv.specs.declared.front.Front.{Front}
use Rattle.mls_deriv.specs.declared.stand.GivenLines.{GivenLines}
use Rattle.mls_deriv.specs.Spellings.{node_words, node_line, line_words, line_text}
use Rattle.mls_deriv.specs.Forms.{IsNodeForm, IsLineForm}
use Rattle.mls_deriv.specs.Texts.{IsOneLine, none_given, after, Stands, AllStand}
use Rattle.mls_deriv.specs.BadLines.{given_by, HasLines}
use Rattle.mls_deriv.specs.inner.Readings.{IsNodeRead, IsLineRead, HasNodes}
use Rattle.mls_deriv.specs.inner.GivenLines.{IsGiven}
use Rattle.mls_deriv.proofs.SpelledLines.{one_line}
use Rattle.mls_deriv.proofs.TextLines.{Of}
use Rattle.mls_deriv.proofs.ReadParts.{spelled_in_front, front_is, no_node_in_front, no_node_at_end, no_line_in_front, no_line_at_end, one_more, stand_more, given_more}

abbrev Cut : List ℕ → Front → Type 0
Cut text f = IsOneLine f.line.now × (text ≡ f.line.now ++ 10 ∷ f.rest.now)

pub no_more_lines : (text : List ℕ) (r : Option Front) → MatchOption r (IsOneLine text) (λ f. Cut text f) → ((f : Front) → r ≡ Some f → ⊥) → IsOneLine text
no_more_lines text None h other = h
no_more_lines text (Some f) h other = absurd (other f refl)

-- the lines of nodes
pub nodes_more : (text rest line behind : List ℕ) (nodes new : List Node) (n : Node) → text ≡ flat_map node_line nodes ++ rest → All IsNodeForm nodes → rest ≡ line ++ 10 ∷ behind → IsNodeRead line (Some n) → new ≡ nodes ++ n ∷ []
    → (text ≡ flat_map node_line new ++ behind) × All IsNodeForm new
nodes_more text rest line behind nodes new n e all cut is added =
    let spelled = one_more node_line text rest behind nodes n e (spelled_in_front rest line behind (codes "node" ++ node_words n) cut is.1) in
    (subst (λ (ns : List Node). text ≡ flat_map node_line ns ++ behind) (sym added) spelled, subst (λ (ns : List Node). All IsNodeForm ns) (sym added) (All-push IsNodeForm nodes n all is.0))

pub nodes_stop : (text rest line behind : List ℕ) (nodes : List Node) → text ≡ flat_map node_line nodes ++ rest → All IsNodeForm nodes → IsOneLine line → rest ≡ line ++ 10 ∷ behind → IsNodeRead line None → HasNodes text nodes rest
nodes_stop text rest line behind nodes e all one cut none = record { spelled = e; forms = all; no_more = λ n is begins. no_node_in_front rest line behind one cut none n is begins }

pub nodes_end : (text rest : List ℕ) (nodes : List Node) → text ≡ flat_map node_line nodes ++ rest → All IsNodeForm nodes → IsOneLine rest → HasNodes text nodes rest
nodes_end text rest nodes e all one = record { spelled = e; forms = all; no_more = λ n is begins. no_node_at_end rest one n is begins }

-- the other lines
pub lines_more : (count : ℕ) (text rest line behind : List ℕ) (lines new : List SectionLine) (l : SectionLine) → text ≡ flat_map line_text lines ++ rest → All IsLineForm lines → AllStand count none_given lines
    → rest ≡ line ++ 10 ∷ behind → IsLineRead line (Some l) → Stands count (given_by none_given lines) l → new ≡ lines ++ l ∷ []
    → (text ≡ flat_map line_text new ++ behind) × All IsLineForm new × AllStand count none_given new
lines_more count text rest line behind lines new l e all stand cut is stands added =
    let spelled = one_more line_text text rest behind lines l e (spelled_in_front rest line behind (line_words l) cut is.1) in (
      subst (λ (ls : List SectionLine). text ≡ flat_map line_text ls ++ behind) (sym added) spelled,
      subst (λ (ls : List SectionLine). All IsLineForm ls) (sym added) (All-push IsLineForm lines l all is.0),
      subst (λ (ls : List SectionLine). AllStand count none_given ls) (sym added) (stand_more count none_given lines l stand stands),
    )

pub given_after : (lines new : List SectionLine) (l : SectionLine) (held : GivenLines) → IsGiven (after (given_by none_given lines) l) held → new ≡ lines ++ l ∷ [] → IsGiven (given_by none_given new) held
given_after lines new l held is added =
    subst (λ (ls : List SectionLine). IsGiven (given_by none_given ls) held) (sym added) (subst (λ g. IsGiven g held) (sym (given_more none_given lines l)) is)

pub lines_stop : (count : ℕ) (text rest line behind : List ℕ) (lines : List SectionLine) → text ≡ flat_map line_text lines ++ rest → All IsLineForm lines → AllStand count none_given lines → IsOneLine line → rest ≡ line ++ 10 ∷ behind
    → IsLineRead line None → HasLines count text lines rest
lines_stop count text rest line behind lines e all stand one cut none = record {
  spelled = e;
  forms = all;
  stand = stand;
  no_more = λ l is stands begins. no_line_in_front count (given_by none_given lines) rest line behind one cut none l is stands begins;
}

pub lines_end : (count : ℕ) (text rest : List ℕ) (lines : List SectionLine) → text ≡ flat_map line_text lines ++ rest → All IsLineForm lines → AllStand count none_given lines → IsOneLine rest → HasLines count text lines rest
lines_end count text rest lines e all stand one = record {
  spelled = e;
  forms = all;
  stand = stand;
  no_more = λ l is stands begins. no_line_at_end count (given_by none_given lines) rest one l is stands begins;
}

-- a line that may not stand there is the only one in front
pub lines_barred : (count : ℕ) (text rest line behind : List ℕ) (lines : List SectionLine) (l : SectionLine) → text ≡ flat_map line_text lines ++ rest → All IsLineForm lines → AllStand count none_given lines → IsOneLine line
    → rest ≡ line ++ 10 ∷ behind → IsLineRead line (Some l) → (Stands count (given_by none_given lines) l → ⊥) → HasLines count text lines rest
lines_barred count text rest line behind lines l e all stand one cut is barred = record {
  spelled = e;
  forms = all;
  stand = stand;
  no_more = λ other form stands begins.
      let spelled = front_is line behind (Of other) begins.0 one form (sym cut ∙ begins.1) in
      let same : l ≡ other = one_line l other is.0 form (ap (λ b. b ++ codes "\n") (sym is.1 ∙ spelled)) in
      barred (subst (Stands count (given_by none_given lines)) (sym same) stands);
}
