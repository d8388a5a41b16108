-- The desk: eight files; `respond` to a call; runs from a fresh desk; the event program.
use Rattle.std.specs.Prelude.{true, false, ◌&&◌, List, [], ◌∷◌, ◌++◌, map, ℕ, ltb, eqb, length, get_or, set, drop, replicate}
use Rattle.std.proofs.Math.Option.{none, some}
use Rattle.kinds.specs.declared.Answer.TheVariants.{Passed, Status}
use Rattle.kinds.specs.declared.Frame.{Frame}
use Rattle.kinds.specs.declared.Frame.TheVariants.{Event, Code, Shape}
use Rattle.kinds.specs.declared.Event.TheVariants.{Build, Open, Read, Write, Control, Collect, Close, Time, Counts}
use Rattle.rules.specs.Limits.{files, write_head}
use Rattle.rules.specs.State.{Hap, File, unbuilt}
use Rattle.rules.specs.Frames.{frame_of}
use Rattle.rules.specs.Answers.{answer_bytes}
use Rattle.rules.specs.Line.{Lines, lines_of, line_frame, line_of}
use Rattle.rules.specs.Reply.{Reply, answers, shows, Out}
use Rattle.rules.specs.Time.{file_time, time_haps}
use Rattle.rules.specs.Calls.{Ask, build, opens, read, write, control, collect, close, counts, refusal, ask}
use Rattle.rules.specs.Calls as calls

-- what the host may call on a desk
pub data Call : Type 0 where
  -- a frame
  event : List ℕ → Call
  -- file, reader
  look : ℕ → ℕ → Call
  -- file, length of the output lent
  save : ℕ → ℕ → Call
  -- file, text
  load : ℕ → List ℕ → Call

-- what a call asks: something of the file that it names, the passing of time, or nothing valid (a frame of no shape)
pub data Asked : Type 0 where
  on : ℕ → Ask → Asked
  time : ℕ → Asked
  bad : Asked

-- what a frame asks; the data of a write are the bytes after its count
unfoldable pub frame_asks : Frame → List ℕ → Asked
frame_asks (Event (Build f r b n x)) d = on f (build r b n x)
frame_asks (Event (Open f a s m)) d = on f (opens a s m)
frame_asks (Event (Read f p n)) d = on f (read p n)
frame_asks (Event (Write f p n)) d = on f (write p n d)
frame_asks (Event (Control f p c)) d = on f (control p (some c))
frame_asks (Event (Collect f p)) d = on f (collect p)
frame_asks (Event (Close f p)) d = on f (close p)
frame_asks (Event (Time e)) d = time e
frame_asks (Event (Counts f)) d = on f counts
frame_asks (Code f p) d = on f (control p none)
frame_asks Shape d = bad

unfoldable pub asked : Call → Asked
asked (event fr) = frame_asks (frame_of fr) (drop write_head fr)
asked (look f p) = on f (calls.look p)
asked (save f n) = on f (calls.save n)
asked (load f t) = on f (calls.load t)

-- "Eight files, 0 to 7": only `file_of`, `with_file` and `desk_time` see and change them, so that adding another part to the desk is one change
pub record Desk : Type 0 where
  pub files : List File

-- "One call makes a fresh desk: no file built"
unfoldable pub fresh_desk : Desk
fresh_desk = record { files = replicate files unbuilt }

unfoldable pub file_of : Desk → ℕ → File
file_of d f = get_or d.files f unbuilt

unfoldable pub with_file : Desk → ℕ → File → Desk
with_file d f x = record { files = set d.files f x }

-- the desk after e seconds, which pass in every file
unfoldable pub desk_time : ℕ → Desk → Desk
desk_time e d = record { files = map (file_time e) d.files }

pub record Responded : Type 0 where
  pub reply : Reply
  pub desk : Desk

-- the reply and the desk after it; refusals 30, "answer 00 1E", and 31, "file above 7"
unfoldable pub answered : Desk → Asked → Responded
answered d (on f q) =
    elim (ltb f files) [
      | true ↦ let o : Out = ask (file_of d f) q in record { reply = o.reply; desk = with_file d f o.file }
      | false ↦ record { reply = refusal q 31; desk = d }
    ]
answered d (time e) = record { reply = answers Passed []; desk = desk_time e d }
answered d bad = record { reply = answers (Status 0 30) []; desk = d }

unfoldable pub respond : Desk → Call → Responded
respond d c = answered d (asked c)

-- runs

unfoldable pub replies : Desk → List Call → List Reply
replies d [] = []
replies d (c ∷ cs) = (respond d c).reply ∷ replies (respond d c).desk cs

unfoldable pub after : Desk → List Call → Desk
after d [] = d
after d (c ∷ cs) = after (respond d c).desk cs

-- what a call does to file f, in order; nothing to a file above 7
unfoldable pub happens : ℕ → Desk → Asked → List Hap
happens f d (on g q) = elim (eqb g f && ltb g files) [ true ↦ (ask (file_of d f) q).haps | false ↦ [] ]
happens f d (time e) = time_haps e (file_of d f)
happens f d bad = []

unfoldable pub history : ℕ → Desk → List Call → List Hap
history f d [] = []
history f d (c ∷ cs) = happens f d (asked c) ++ history f (respond d c).desk cs

-- the bytes of a reply: the answer of an event; what look, save and load show
unfoldable pub reply_bytes : Reply → List ℕ
reply_bytes (answers a d) = answer_bytes a ++ d
reply_bytes (shows st d) = d

-- the event program

-- "lines ended by LF (the last may lack it)": no line follows the last LF
unfoldable pub input_lines : List ℕ → List (List ℕ)
input_lines t =
    let l : Lines = lines_of t in
    elim (eqb (length l.rest) 0) [ true ↦ l.whole | false ↦ l.whole ++ (l.rest ∷ []) ]

unfoldable pub answer_lines : List Reply → List ℕ
answer_lines [] = []
answer_lines (r ∷ l) = line_of (reply_bytes r) ++ answer_lines l

-- what the event program prints, given a text on standard input
unfoldable pub program : List ℕ → List ℕ
program t = answer_lines (replies fresh_desk (map (λ l. event (line_frame l)) (input_lines t)))
