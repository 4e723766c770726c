-- The worked examples: those at numbers are computed, the others rewritten with what is known of the machine.
use Rattle.std.proofs.Common.{◌≡◌, ◌-◌, ◌*◌, ◌/◌, ◌%◌, true, false, eqb, leb, refl, arith}
use Rattle.std.proofs.lemmas.Bool.{ne_eqb, lt-leb, le-leb}
use Rattle.std.proofs.lemmas.List.{get_or-set_same}
use Rattle.memory.specs.Contents.{put}
use Rattle.memory.specs.Lanes.{byte, names, pick, merged}
use Rattle.image.specs.Image.{header, given_words, between, addresses, header_questions, length_question, size_question, refusal}
use Rattle.machine.specs.Processor.{step, after}
use Rattle.machine.specs.Rv32i.{rv32i}
use Rattle.machine.specs.Run.{run_end}
use Rattle.worked_examples.specs.Examples.{WorkedExamples}
use Rattle.worked_examples.proofs.Detectors.{read_write, write_read_write, byte_read_write}

pub worked_examples : WorkedExamples
unfolding put byte names pick merged header given_words between addresses header_questions length_question size_question refusal step after rv32i run_end
worked_examples = record {
  lw = refl;
  no_instruction = refl;
  stops_by_3 = λ lim s h.
      let e : leb lim.instructions s.core.ran ≡ false = lt-leb _ _ h.more in
      let f : leb (4 * lim.text) s.core.hart.pc ≡ false = lt-leb _ _ h.inside in
      simp (e, f, h.here);
  sltiu = λ lim s h n.
      let e : leb lim.instructions s.core.ran ≡ false = lt-leb _ _ h.more in
      let f : leb (4 * lim.text) s.core.hart.pc ≡ false = lt-leb _ _ h.inside in
      simp (e, f, h.here) (get_or-set_same s.core.hart.x 0 1 0 n);
  jalr_to_7 = λ lim h sent r a offset e. rw e;
  jalr_to_5 = λ lim h sent r a offset e. rw e;
  lw_last = λ lim h sent r a offset p w e.
      let f : eqb r 0 ≡ false = ne_eqb _ _ (omega arith) in
      let g : (4 * lim.words - 4) % 4 ≡ 0 = omega arith in
      let k : leb (4 * lim.words) (4 * lim.words - 4) ≡ false = lt-leb _ _ (omega arith) in
      let i : (4 * lim.words - 4) / 4 ≡ lim.words - 1 = omega arith in
      simp (e, f, g, k, i);
  lw_past = λ lim h sent r a offset p e.
      let f : eqb r 0 ≡ false = ne_eqb _ _ (omega arith) in
      let g : 4 * lim.words % 4 ≡ 0 = omega arith in
      let k : leb (4 * lim.words) (4 * lim.words) ≡ true = le-leb _ _ (omega arith) in
      simp (e, f, g, k);
  image_words = refl;
  image_accepted = refl;
  image_stop = refl;
  image_count = refl;
  image_outputs = refl;
  image_memory = refl;
  image_pc = refl;
  image_x2 = refl;
  image_x3 = refl;
  read_write = read_write;
  write_read_write = write_read_write;
  byte_read_write = byte_read_write;
}
