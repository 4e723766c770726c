-- Images: rows of bytes, read as words, least significant byte first. Seven header words come first, the given memory words after them.
use Rattle.std.specs.Prelude.{◌≡◌, ℕ, ◌+◌, ◌*◌, ◌%◌, Bool, ◌&&◌, List, [], ◌∷◌, ◌++◌, length, drop, Some, None, Ok, Err, Option, Result, ◌==◌, nat_le, nat_lt}
use Rattle.memory.specs.Bytes.{word_at}
use Rattle.memory.specs.Contents.{words_from}
use Rattle.image.specs.declared.Image.{Image}
use Rattle.image.specs.declared.Refusal.{Refusal}
use Rattle.image.specs.declared.header.Header.{Header}
use Rattle.image.specs.declared.header.HeaderWord.{HeaderWord}
use Rattle.image.specs.Questions.{No, Question, first_no}
use Rattle.image.specs.Refusals.{position, as_no}

-- the header words, in their order
unfoldable pub header : List ℕ → Header
header bs =
    record {
      words = word_at bs 0;
      text = word_at bs 1;
      given = word_at bs 2;
      entry = word_at bs 3;
      period = word_at bs 4;
      outputs = word_at bs 5;
      limit = word_at bs 6;
    }

-- the memory words that the image gives, which follow the header
unfoldable pub given_words : List ℕ → List ℕ
given_words bs = words_from (word_at bs) 7 (header bs).given

-- from low to high, both included
unfoldable pub between : ℕ → ℕ → ℕ → Bool
between low n high = nat_le low n && nat_le n high

-- the address is that of one of the first count words
unfoldable pub addresses : ℕ → ℕ → Bool
addresses address count = address % 4 == 0 && nat_lt address (4 * count)

-- a bad header word is refusal 5 with its number
abbrev pub bad : ℕ → No
bad k = (5, k ∷ [])

-- the rule of each header word, in their order
unfoldable pub header_questions : Header → List Question
header_questions h =
    (between 1 h.words 16384, bad 0)
    ∷ (between 1 h.text h.words, bad 1)
    ∷ (between h.text h.given h.words, bad 2)
    ∷ (addresses h.entry h.text, bad 3)
    ∷ (between 1 h.period 65535, bad 4)
    ∷ (nat_le h.outputs 16384, bad 5)
    ∷ (nat_le 1 h.limit, bad 6)
    ∷ []

-- whether the rule of a header word holds, as a question
abbrev pub asked : Bool × HeaderWord → Question
asked r = (r.0, bad (position r.1))

-- the bytes are whole words, enough for a header
unfoldable pub length_question : List ℕ → Question
length_question bs = (length bs % 4 == 0 && nat_le 28 (length bs), (2, []))

-- the bytes are the header and the given words, and no more
unfoldable pub size_question : List ℕ → Question
size_question bs = ((length bs == 28 + 4 * (header bs).given), (6, []))

abbrev pub image_questions : List ℕ → List Question
image_questions bs = length_question bs ∷ (header_questions (header bs) ++ size_question bs ∷ [])

-- why the bytes are refused as an image, none where they are one
unfoldable pub refusal : List ℕ → Option No
refusal bs = first_no (image_questions bs)

-- the header is judged by its questions
abbrev pub Judged : Header → Result (Unit {0}) Refusal → Type 0
Judged h (Ok x) = first_no (header_questions h) ≡ None
Judged h (Err e) = first_no (header_questions h) ≡ Some (as_no e)

-- the bytes are read as an image, or refused
abbrev pub ReadAs : List ℕ → Result Image Refusal → Type 0
ReadAs bs (Ok im) = (refusal bs ≡ None) × (im.header ≡ header bs) × (im.memory.now ≡ drop 28 bs)
ReadAs bs (Err e) = refusal bs ≡ Some (as_no e)
