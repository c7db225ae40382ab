-- Reading a whole text from a scanner.
use Rattle.std.proofs.Common.{◌≡◌, ℕ, true, length, List, Ok, Err, Result, IsErrAnd, sym, ap, subst, ◌∙◌}
use Rattle.brep_tokens.specs.State.{Scan}
use Rattle.brep_tokens.specs.Scan.{head_of, words_left}
use Rattle.brep_tokens.specs.Laws.{ScannerGivesTokens}
use Rattle.brep_tokens.specs.Tokens.{Word, after_head, head_at, tokens_of, words_at}
use Rattle.brep_tokens.specs.declared.fault.ReadFault.{ReadFault}
use Rattle.brep_tokens.specs.declared.fault.ReadStop.{ReadStop}
use Rattle.brep_tokens.specs.declared.fault.ReadStop.TheVariants as stops
use Rattle.entry_readers.specs.Reading.{Read, more, fault}
use Rattle.brep_file.specs.declared.file.File.{File}
use Rattle.brep_file.specs.FileReading.{begun, closed, finished, from_locations, read_head, read_text, read_words}
use Rattle.brep_file.specs.Giving.{closing, FileGiven, front, Fails, GoesTo, IsFault, IsVersion}
use Rattle.brep_file.specs.RecordLeft.{IsVersionRead}
use Rattle.brep_file.specs.Sound.{Limits}

abbrev file_fault : ReadFault → Result File ReadFault
file_fault x = Err x

finished_fault : (s : Scan) (x : ReadFault) (r : Read File) → IsFault s x r
    → finished (length s.fed) (words_left s) r ≡ Err x
finished_fault s x (Ok r) is = absurd is
finished_fault s x (Err more) is = ap file_fault is
finished_fault s x (Err (fault y)) is = ap file_fault is

pub text_is : (limits : Limits) (bytes : List ℕ) (s0 s1 : Scan) (v : ℕ) → s0.fed ≡ bytes → IsVersion s0 s1 v
    → read_text limits bytes ≡ read_words limits (length s1.fed) v (words_left s1)
unfolding read_text
text_is limits bytes s0 s1 v fed is =
    ap (λ (b : List ℕ). read_head limits (length b) (head_at true 1 0 b)) (sym fed)
    ∙ ap (read_head limits (length s0.fed)) is.head
    ∙ ap (λ (ws : List Word). read_words limits (length s0.fed) v ws) (sym is.left)
    ∙ ap (λ (b : List ℕ). read_words limits (length b) v (words_left s1)) (sym is.fed)

pub version_known : ScannerGivesTokens → (s0 s1 : Scan) (v : ℕ) → IsVersion s0 s1 v → IsVersionRead v
unfolding tokens_of
version_known scans s0 s1 v is = (scans.version s0.fed v (words_at is.place is.rest) (ap after_head is.head)).2

pub head_stop : (limits : Limits) (bytes : List ℕ) (s0 : Scan) (x : ReadFault) → s0.fed ≡ bytes
    → read_head limits (length s0.fed) (head_of s0) ≡ Err x → read_text limits bytes ≡ Err x
unfolding read_text
head_stop limits bytes s0 x fed e = ap (λ (b : List ℕ). read_head limits (length b) (head_at true 1 0 b)) (sym fed) ∙ e

module _ (limits : Limits) (s : Scan) (v : ℕ) where
  pub body_stop : (x : ReadFault) → IsFault s x (from_locations limits (begun v) (front s))
      → read_words limits (length s.fed) v (words_left s) ≡ Err x
  body_stop x is = finished_fault s x (from_locations limits (begun v) (front s)) is

  pub body_read : (s' : Scan) (f : File) → from_locations limits (begun v) (front s) ≡ Ok (f, front s') → GoesTo s s'
      → read_words limits (length s.fed) v (words_left s) ≡ closing s' f
  body_read s' f e goes = ap (finished (length s.fed) (words_left s)) e ∙ ap (λ l. closed f l (front s'))
      (sym goes.long)

  pub body_fails : (e : ReadStop) → Fails s (from_locations limits (begun v) (front s)) e
      → FileGiven (Err e) (read_words limits (length s.fed) v (words_left s))
  body_fails stops.NoMemory is = tt
  body_fails (stops.Fault x) is = body_stop x is

-- what stops a step stops the whole
pub stopped_with : (r : Result File ReadStop) (e : ReadStop) (read : Result File ReadFault) → IsErrAnd r (λ z. z ≡ e)
    → FileGiven (Err e) read → FileGiven r read
stopped_with (Ok f) e read wrong given = absurd wrong
stopped_with (Err z) e read is given = subst (λ (w : ReadStop). FileGiven (Err w) read) (sym is) given
