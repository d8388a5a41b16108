-- What is asked of a file, and what it replies. Refusals 31 and 32 are here, the higher ones with each call: "the lowest that applies is
-- given".
use Rattle.std.specs.Prelude.{List, [], ℕ}
use Rattle.std.proofs.Math.Option.{Option, none, some}
use Rattle.kinds.specs.declared.Answer.TheVariants.{Status}
use Rattle.kinds.specs.declared.Control.{Control}
use Rattle.rules.specs.State.{Acc, Built, File, unbuilt, built}
use Rattle.rules.specs.Requests.{acc_at}
use Rattle.rules.specs.Reply.{Reply, answers, shows, Out, leaves, unmade}
use Rattle.rules.specs.Open as opening
use Rattle.rules.specs.Transfer as transfer
use Rattle.rules.specs.Controls as controls
use Rattle.rules.specs.Close as closing
use Rattle.rules.specs.Sheet as sheets
use Rattle.rules.specs.Look as looking
use Rattle.rules.specs.FileCounts as counting

pub data Ask : Type 0 where
  -- R B N X
  build : ℕ → ℕ → ℕ → ℕ → Ask
  -- access share multiaccess
  opens : ℕ → ℕ → ℕ → Ask
  -- accessor, count as in the frame
  read : ℕ → ℕ → Ask
  -- accessor, count, data
  write : ℕ → ℕ → List ℕ → Ask
  -- accessor, one of the six controls or another code
  control : ℕ → Option Control → Ask
  collect : ℕ → Ask
  close : ℕ → Ask
  counts : Ask
  -- load: the text; save: the length of the output lent; look: a reader
  load : List ℕ → Ask
  save : ℕ → Ask
  look : ℕ → Ask

-- the reply that refuses: operation and status; for look, save and load the status, with nothing shown or written
unfoldable pub refusal : Ask → ℕ → Reply
refusal (build r b n x) st = answers (Status 1 st) []
refusal (opens a s m) st = answers (Status 2 st) []
refusal (read p n) st = answers (Status 3 st) []
refusal (write p n d) st = answers (Status 4 st) []
refusal (control p c) st = answers (Status 5 st) []
refusal (collect p) st = answers (Status 6 st) []
refusal (close p) st = answers (Status 7 st) []
refusal counts st = answers (Status 9 st) []
refusal (load t) st = shows st []
refusal (save n) st = shows st []
refusal (look p) st = shows st []

-- the outcome f for the accessor at place p; refused 32 if that accessor is not open
unfoldable pub on_acc : Ask → ℕ → (Acc → Out) → Built → Out
on_acc q p f b = elim (acc_at b p) [ none ↦ leaves (refusal q 32) b | some a ↦ f a ]

-- the reply of a built file; build and load are refused 31
unfoldable pub ask_built : Built → Ask → Out
ask_built b (build r f n x) = leaves (refusal (build r f n x) 31) b
ask_built b (opens a s m) = opening.open_file a s m b
ask_built b (read p n) = on_acc (read p n) p (λ a. transfer.read p a n b) b
ask_built b (write p n d) = on_acc (write p n d) p (λ a. transfer.write p a n d b) b
ask_built b (control p c) = on_acc (control p c) p (λ a. controls.control p a c b) b
ask_built b (collect p) = on_acc (collect p) p (λ a. transfer.collect p a.req b) b
ask_built b (close p) = on_acc (close p) p (λ a. closing.close p a a.req b) b
ask_built b counts = counting.counts b
ask_built b (load t) = leaves (refusal (load t) 31) b
ask_built b (save n) = sheets.save n b
ask_built b (look p) = on_acc (look p) p (λ a. looking.look a b) b

-- the reply of a file that is not built; all but build and load are refused 31
unfoldable pub ask_unbuilt : Ask → Out
ask_unbuilt (build r f n x) = opening.build r f n x
ask_unbuilt (opens a s m) = unmade (refusal (opens a s m) 31)
ask_unbuilt (read p n) = unmade (refusal (read p n) 31)
ask_unbuilt (write p n d) = unmade (refusal (write p n d) 31)
ask_unbuilt (control p c) = unmade (refusal (control p c) 31)
ask_unbuilt (collect p) = unmade (refusal (collect p) 31)
ask_unbuilt (close p) = unmade (refusal (close p) 31)
ask_unbuilt counts = unmade (refusal counts 31)
ask_unbuilt (load t) = sheets.load t
ask_unbuilt (save n) = unmade (refusal (save n) 31)
ask_unbuilt (look p) = unmade (refusal (look p) 31)

unfoldable pub ask : File → Ask → Out
ask unbuilt q = ask_unbuilt q
ask (built b) q = ask_built b q
