-- What holds of each type of record holds of any.
use Rattle.paper.specs.declared.record.Kind.{Kind}
use Rattle.paper.specs.declared.record.Kind.TheVariants.{FileHeader, BatchHeader, Individual, Additional, BatchControl, FileControl, Other}

pub each_kind : (P : Kind → Type 0) → P FileHeader → P BatchHeader → P Individual → P Additional → P BatchControl → P FileControl → P Other → (k : Kind) → P k
each_kind P h b i a c f o FileHeader = h
each_kind P h b i a c f o BatchHeader = b
each_kind P h b i a c f o Individual = i
each_kind P h b i a c f o Additional = a
each_kind P h b i a c f o BatchControl = c
each_kind P h b i a c f o FileControl = f
each_kind P h b i a c f o Other = o
