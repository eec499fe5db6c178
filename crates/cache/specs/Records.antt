-- What a call of a run lays in the records, the keys that Ghost remembers aside.
use Rattle.std.specs.Prelude.{ℕ, Bool, List, [], ◌∷◌, map, Result}
use Rattle.loaders.specs.declared.fault.Fault.{Fault}
use Rattle.machine.specs.declared.call.Call.{Call}
use Rattle.machine.specs.declared.call.Call.TheVariants.{Contains, Peek, Get, GetAt, Put, Fetch, WriteAt, Remove, Retain, Clear}
use Rattle.machine.specs.Machine.{Word, State, look, put, fetch, write_at_lem}
use Rattle.machine.specs.Run.{state_after, meant}
use Rattle.cache_calls.specs.Calls.{put_lays, fetch_lays, write_lays}
use Rattle.cache_calls.specs.Retain.{rising}

module _ {K V R : Type 0} (mean : K → Word) (keeps : R → Word → V → Bool) (c : ℕ) (loader : Word → Result V Fault) where
  abbrev pub laid_by : Call K V R → State V → List (K × V) → List (K × V)
  laid_by (Contains k) s rs = rs
  laid_by (Peek k) s rs = rs
  laid_by (Get k) s rs = rs
  laid_by (GetAt p k) s rs = rs
  laid_by (Put k v) s rs = put_lays (put c s (mean k) v).1 (look (mean k) s) k v rs
  laid_by (Fetch k) s rs = fetch_lays (fetch c loader s (mean k)).1 k rs
  laid_by (WriteAt p k v) s rs = write_lays (write_at_lem s p (mean k) v).1 p v rs
  laid_by (Remove k) s rs = rs
  laid_by (Retain rule) s rs = rs
  laid_by Clear s rs = rs

  -- after these calls, the newest first
  abbrev pub laid_after : List (Call K V R) → List (K × V) → List (K × V)
  laid_after [] rs = rs
  laid_after (x ∷ past) rs = laid_by x (state_after c loader rising (map (meant mean keeps) past)) (laid_after past rs)
