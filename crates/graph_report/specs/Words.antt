-- The words of a report.
use Rattle.std.specs.Prelude.{ℕ, Bool, true, false, List, codes}
use Rattle.cfg_model.specs.declared.graph.EndKind.{EndKind}
use Rattle.cfg_model.specs.declared.graph.EndKind.TheVariants as ends
use Rattle.cfg_model.specs.declared.graph.EdgeKind.{EdgeKind}
use Rattle.cfg_model.specs.declared.graph.EdgeKind.TheVariants as kinds

-- Whether a function may return.
abbrev pub status_word : Bool → List ℕ
status_word true = codes "may-return"
status_word false = codes "no-return"

-- What a block ends with.
abbrev pub end_word : EndKind → List ℕ
end_word ends.Fall = codes "fall"
end_word ends.Branch = codes "branch"
end_word ends.BranchOut = codes "branch-out"
end_word ends.Jump = codes "jump"
end_word ends.Call = codes "call"
end_word ends.IndirectCall = codes "icall"
end_word ends.Return = codes "return"
end_word ends.Table = codes "table"
end_word ends.TableCut = codes "table-cut"
end_word ends.TableOpen = codes "table-open"
end_word ends.Unknown = codes "unknown"
end_word ends.Stop = codes "stop"

-- How control goes along an edge.
abbrev pub edge_word : EdgeKind → List ℕ
edge_word kinds.Fall = codes "fall"
edge_word kinds.Taken = codes "taken"
edge_word kinds.Jump = codes "jump"
edge_word kinds.Tail = codes "tail"
edge_word kinds.Call = codes "call"
edge_word kinds.After = codes "after"
edge_word kinds.Table = codes "table"
edge_word kinds.Landing = codes "landing"
