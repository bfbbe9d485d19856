-- Functions, read off the edges by the block that they leave.
use Rattle.std.specs.Prelude.{◌≡◌, ℕ, ◌<◌, Bool}
use Rattle.cfg_model.specs.declared.graph.Function.{Function}
use Rattle.cfg_model.specs.Graph.Listing.{Lists}
use Rattle.outline_funcs.specs.declared.exits.Exits.{Exits}
use Rattle.outline_funcs.specs.Inner.Exits.{InBodyBy}

-- The function of this entry: its status is one of these answers, and its body lists the starts of
-- its blocks, rising.
pub record IsFunctionBy
    (Answers : ℕ → Bool → Type 0) (exits : Exits) (entry : ℕ) (function : Function)
    : Type 0 where
  pub starts : function.entry ≡ entry
  pub status : Answers entry function.returns
  pub body : Lists ◌<◌ (InBodyBy exits entry) function.body
