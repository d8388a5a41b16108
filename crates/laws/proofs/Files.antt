-- What holds of a file if it is built, weakened and put together.
use Rattle.rules.specs.State.{Built, File, unbuilt, built}
use Rattle.laws.specs.Runs.{OnFile}

pub on-file : (I K : Built → Type 0) → ((b : Built) → I b → K b) → (x : File) → OnFile I x → OnFile K x
unfolding OnFile
on-file I K h unbuilt s = tt
on-file I K h (built b) s = h b s

pub on_both : (I K : Built → Type 0) (x : File) → OnFile I x → OnFile K x → OnFile (λ b. I b × K b) x
unfolding OnFile
on_both I K unbuilt s t = tt
on_both I K (built b) s t = (s, t)
