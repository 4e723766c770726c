-- The worked example, computed.
use Rattle.std.proofs.Common.{refl}
use Rattle.memory.specs.Contents.{put}
use Rattle.memory.specs.Lanes.{byte, names, pick, merged}
use Rattle.image.specs.Image.{header, given_words, between, addresses, header_questions, length_question, size_question, refusal}
use Rattle.machine.specs.Processor.{step, after}
use Rattle.machine.specs.Rv32i.{rv32i}
use Rattle.agreement.specs.Pairs.{hold, arranged}
use Rattle.agreement.specs.Store.{slot_start, slot_at, slot_in_order}
use Rattle.agreement.specs.Charge.{spend}
use Rattle.agreement.specs.Calls.{due_of, play}
use Rattle.agreement.specs.Example.{WorkedExample}

pub worked_example : WorkedExample
unfolding put byte names pick merged header given_words between addresses header_questions length_question size_question refusal step after rv32i hold arranged slot_start slot_at slot_in_order spend due_of play
worked_example = record { loads = refl; loads_once = refl; wrong_length = refl; small_store = refl; answers = refl; cut_at_commit = refl; watchdog_first = refl }
