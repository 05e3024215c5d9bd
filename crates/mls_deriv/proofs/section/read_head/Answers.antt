use Rattle.mls_deriv.proofs.ReadParts.{spelled_in_front}
use Rattle.mls_deriv.proofs.ReadHeads.{no_head_at_end, no_head_in_front, no_type_in_front, type_on_line}
use Rattle.mls_deriv.proofs.section.read_head.Goals as goal

pub returns-in-None : goal.returns-in-None
returns-in-None c = λ name type read is one reads begins. no_head_at_end c.args.text.now name type c.in-None.ensures is one begins

pub returns-in-None-name_and_type : goal.returns-in-None-name_and_type
returns-in-None-name_and_type c = λ name type read is one reads begins.
    no_head_in_front c.args.text.now c.in-Some.front.line.now c.in-Some.front.rest.now name type c.in-Some.ensures.0 c.in-Some.ensures.1 c.in-None-name_and_type.ensures is one begins

pub returns-in-None-2 : goal.returns-in-None-2
returns-in-None-2 c = λ name type read is one reads begins.
    no_type_in_front c.args.text.now c.in-Some.front.line.now c.in-Some.front.rest.now c.in-Some-name_and_type.parts.0.now c.in-Some-name_and_type.parts.1.now name type read
    c.in-Some.ensures.0 c.in-Some.ensures.1 c.in-Some-name_and_type.ensures.0 c.in-Some-name_and_type.ensures.1 (rw c.in-None-2.is at c.in_ok-type_of.ensures) is one reads begins

pub returns-in-Some-2 : goal.returns-in-Some-2
returns-in-Some-2 c = record {
  spelled = spelled_in_front c.args.text.now c.in-Some.front.line.now c.in-Some.front.rest.now _ c.in-Some.ensures.1 c.in-Some-name_and_type.ensures.1;
  is_name = c.in-Some-name_and_type.ensures.0;
  one_line = type_on_line c.in-Some.front.line.now c.in-Some-name_and_type.parts.0.now c.in-Some-name_and_type.parts.1.now c.in-Some.ensures.0 c.in-Some-name_and_type.ensures.1;
  type_is = rw c.in-Some-2.is at c.in_ok-type_of.ensures;
}
