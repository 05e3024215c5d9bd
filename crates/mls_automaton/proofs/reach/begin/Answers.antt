use Rattle.std.proofs.Common.{◌≡◌, ◌<◌, ◌∙◌, false, List, length, sym, subst, ap}
use Rattle.std.specs.Prelude.{replicate}
use Rattle.std.proofs.lemmas.List.{length-replicate}
use Rattle.mls_automaton.specs.declared.scheme.EnvEntry.{EnvEntry}
use Rattle.mls_automaton.specs.steps.Searching.{Grows, InEntries, search_of}
use Rattle.mls_automaton.proofs.Reaching.{begun, entries-low}
use Rattle.mls_automaton.proofs.reach.begin.Goals as goal

pub mark_entries-requires : goal.mark_entries-requires
mark_entries-requires c = λ j it.
    let marks : c.in_ok-vec.field-0.items ≡ replicate (length c.args.scheme.now.automaton.states) false =
    c.in_ok-vec.ensures.items_if_clones_equal (λ y h. h) ∙ ap (λ n. replicate n false) c.len.ensures.len in
    let size : length c.in_ok-vec.field-0.items ≡ length c.args.scheme.now.automaton.states = ap length marks ∙ length-replicate (length c.args.scheme.now.automaton.states) false in
    subst (λ n. j < n) (sym (c.in_ok-mark.ensures.same_length ∙ size))
    (entries-low c.args.scheme.now c.requires c.as_slice.ensures.rise j (subst (λ (es : List EnvEntry). InEntries es j) c.as_slice.ensures.entries it))

pub returns : goal.returns
returns c =
    let marks : c.in_ok-vec.field-0.items ≡ replicate (length c.args.scheme.now.automaton.states) false =
    c.in_ok-vec.ensures.items_if_clones_equal (λ y h. h) ∙ ap (λ n. replicate n false) c.len.ensures.len in
    begun c.args.scheme.now (record { marks = c.in_ok-vec.field-0.items; work = c.new.result.items }) (search_of c.mark.new.self) (search_of c.mark_entries.new.self)
    marks c.new.ensures.items c.as_slice.ensures.rise c.in_ok-mark.ensures
    (subst (λ (es : List EnvEntry). Grows (search_of c.mark.new.self) (search_of c.mark_entries.new.self) (InEntries es)) c.as_slice.ensures.entries c.in_ok-mark_entries.ensures)
