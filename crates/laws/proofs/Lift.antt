-- From each change to every run: what the changes keep, and a new file has, holds of each file after any run from a fresh desk.
use mathlib.Core.List.{List}
use Prim.Native.Nat.{ℕ}
use Rattle.rules.specs.State.{Built, File, unbuilt, built}
use Rattle.rules.specs.Reply.{Reply, hushed, leaves, unmade}
use Rattle.rules.specs.Time.{lapse, file_time}
use Rattle.rules.specs.Calls.{Ask, ask}
use Rattle.rules.specs.Desk.{Call, fresh_desk, file_of, after}
use Rattle.laws.specs.Runs.{OnFile, Proper}
use Rattle.laws.specs.Changes.{Walks, Settles, Starts}
use Rattle.laws.proofs.Isolation.{always}
use Rattle.laws.proofs.Files.{on-file}
use Rattle.laws.proofs.Walk.{lapses-rest}
use Rattle.laws.proofs.Calls.{walked}
use Rattle.laws.proofs.Made.{made}

-- R is what holds of a settled file
module _ (I R : Built → Type 0) (J : ℕ → Built → Type 0) (w : Walks I J) (ages : (e : ℕ) (b : Built) → I b → I (lapse e b)) (st : Settles I R) (new : Starts I) (calm : Starts R) (hush : (b : Built) → I b → R b → I (hushed b) × R (hushed b)) where
  abbrev pub Good : File → Type 0
  Good x = OnFile (λ b. I b × R b) x

  left : (r : Reply) (b : Built) → I b → R b → Good (leaves r b).file
  unfolding OnFile leaves
  left r b s z = hush b s z

  none_left : (r : Reply) → Good (unmade r).file
  unfolding OnFile unmade
  none_left r = tt

  pub asks : (x : File) (q : Ask) → Proper q → Good x → Good (ask x q).file
  unfolding ask
  asks unbuilt q k s = made (λ o. Good o.file) none_left (λ r g k. left r _ (new.built g k) (calm.built g k)) (λ r t k. left r _ (new.loads t k) (calm.loads t k)) q
  asks (built b) q k s = let h : I b × R b = unfold OnFile in s in walked I R J w st (λ o. Good o.file) left b q k h.0 h.1

  pub lasts : (e : ℕ) (x : File) → Good x → Good (file_time e x)
  unfolding file_time OnFile
  lasts e unbuilt s = tt
  lasts e (built b) s = hush (lapse e b) (ages e b s.0) (lapses-rest I R st e b s.1)

  pub lifted-both : (f : ℕ) (cs : List Call) → OnFile (λ b. I b × R b) (file_of (after fresh_desk cs) f)
  lifted-both f cs = always Good (unfold OnFile in tt) asks lasts f cs

-- where nothing is asked of a settled file

abbrev pub Any : Built → Type 0
Any b = Unit {0}

pub any : (I : Built → Type 0) → Settles I Any
any I = record { rests = λ b _. tt; milds = λ p f b _ _. tt; finishes = λ p st q b _. tt; cancels = λ p b _. tt; frees = λ p b _. tt; lessens = λ e b _. tt }

pub any-start : Starts Any
any-start = record { built = λ g _. tt; loads = λ s _. tt }

module _ (I : Built → Type 0) (J : ℕ → Built → Type 0) (w : Walks I J) (ages : (e : ℕ) (b : Built) → I b → I (lapse e b)) (new : Starts I) (hush : (b : Built) → I b → I (hushed b)) where
  pub lifted : (f : ℕ) (cs : List Call) → OnFile I (file_of (after fresh_desk cs) f)
  lifted f cs = on-file (λ b. I b × Any b) I (λ b h. h.0) (file_of (after fresh_desk cs) f) (lifted-both I Any J w ages (any I) new any-start (λ b s _. (hush b s, tt)) f cs)
